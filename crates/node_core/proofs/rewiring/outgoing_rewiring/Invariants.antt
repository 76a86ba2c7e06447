use Rattle.std.proofs.Common.{take, unwrap_or}
use Rattle.propagation.specs.Lists.{without}
use Rattle.propagation.specs.Logs.{sends}
use Rattle.propagation.specs.Logs.Frame.{Subscribe as TheSubscribe, Unsubscribe as TheUnsubscribe}
use Rattle.service_machine.specs.States.{epoch_in}
use Rattle.service_machine.specs.Steps.{targets}
use Rattle.node_core.specs.Outgoing.{Says}
use Rattle.node_core.proofs.rewiring.outgoing_rewiring.Given as goal

abbrev pub invariant-loop-id : goal.invariant-loop-id
invariant-loop-id l = Says l.outgoing (λ log. sends (λ p. TheSubscribe l.fn.clock) (without (take l.id-index l.ids) (targets l.edges)) (sends (λ p. TheUnsubscribe (unwrap_or (epoch_in l.edges p) 0)) (without (targets l.edges) l.ids) log))
