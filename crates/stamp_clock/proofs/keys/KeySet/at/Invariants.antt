use Rattle.std.proofs.Common.{◌≡◌, drop}
use Rattle.stamp_clock.proofs.keys.KeySet.at.Given as goal

abbrev pub invariant-loop : goal.invariant-loop
invariant-loop l = l.left ≡ drop l.counter l.fn.self
