use Rattle.settle_core.specs.Inside.Parting.{AreUnwired}
use Rattle.settle_core.proofs.parting.all_unwired.Given as goal

abbrev pub invariant-loop-node : goal.invariant-loop-node
invariant-loop-node l = AreUnwired l.yielded l.all.items
