use Rattle.std.proofs.Common.{◌≡◌, take}
use Rattle.service_machine.specs.Steps.{targets}
use Rattle.settle_core.proofs.parting.targets_of.Given as goal

abbrev pub invariant-loop-edge : goal.invariant-loop-edge
invariant-loop-edge l = l.ids.items ≡ targets (take l.edge-index l.edges)
