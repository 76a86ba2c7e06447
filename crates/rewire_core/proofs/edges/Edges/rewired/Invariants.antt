use Rattle.std.proofs.Common.{◌≡◌, ◌++◌, drop}
use Rattle.service_machine.specs.States.{edges_to}
use Rattle.rewire_core.proofs.edges.Edges.rewired.Given as goal

abbrev pub invariant-loop-id : goal.invariant-loop-id
invariant-loop-id l = l.edges.items ++ edges_to l.self l.clock (drop l.id-index l.ids) ≡ edges_to l.self l.clock l.ids
