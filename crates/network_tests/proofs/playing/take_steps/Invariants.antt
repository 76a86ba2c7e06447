use Rattle.std.proofs.Common.{◌≡◌}
use Rattle.network_tests.proofs.playing.take_steps.Given as goal

abbrev pub invariant-loop-line : goal.invariant-loop-line
invariant-loop-line l = l.network.rows ≡ l.fn.network.rows
