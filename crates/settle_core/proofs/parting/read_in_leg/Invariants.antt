use Rattle.std.proofs.Common.{ℕ}
use Rattle.service_machine.specs.Steps.{targets}
use Rattle.settle_core.specs.Inside.Parting.{AreRead}
use Rattle.settle_core.proofs.parting.read_in_leg.Given as goal

abbrev pub invariant-loop-clock : goal.invariant-loop-clock
invariant-loop-clock l = (count : ℕ) → AreRead count (targets l.node.state.edges) l.node.state.own l.history l.clock l.ids.items
