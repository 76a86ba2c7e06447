use Rattle.std.proofs.Common.{take}
use Rattle.service_machine.specs.Steps.{targets}
use Rattle.settle_core.proofs.TableLemmas.{Reserved}
use Rattle.settle_core.proofs.room.reserve_all.Given as goal

abbrev pub invariant-loop-edge : goal.invariant-loop-edge
invariant-loop-edge l = Reserved (targets (take l.edge-index l.to)) l.sender l.fn.links.items l.links.items
