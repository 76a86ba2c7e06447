use Rattle.std.proofs.Common.{◌≡◌, take}
use Rattle.settle_core.specs.Rings.{ringed}
use Rattle.settle_core.proofs.parting.ringed.Given as goal

abbrev pub invariant-loop-number : goal.invariant-loop-number
invariant-loop-number l = l.peers.items ≡ ringed 0 (take l.number l.ends)
