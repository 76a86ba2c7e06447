use Rattle.std.proofs.Common.{take, unwrap_or}
use Rattle.propagation.specs.Lists.{without}
use Rattle.propagation.specs.Logs.{sends}
use Rattle.propagation.specs.Logs.Frame.{Unsubscribe as TheUnsubscribe}
use Rattle.service_machine.specs.States.{epoch_in}
use Rattle.service_machine.specs.Steps.{targets}
use Rattle.node_core.specs.Outgoing.{Says}
use Rattle.node_core.proofs.rewiring.outgoing_leaving.Given as goal

abbrev pub invariant-loop-edge : goal.invariant-loop-edge
invariant-loop-edge l = Says l.outgoing (λ log. sends (λ p. TheUnsubscribe (unwrap_or (epoch_in l.edges p) 0)) (without (take l.edge-index (targets l.edges)) l.ids) log)
