use Rattle.std.proofs.Common.{◌∙◌, sym, ap, refl, unwrap_or, add-one, is_some}
use Rattle.propagation.specs.Lists.{without}
use Rattle.propagation.specs.Logs.{sends}
use Rattle.propagation.specs.Logs.Frame.{Subscribe as TheSubscribe, Unsubscribe as TheUnsubscribe}
use Rattle.service_machine.specs.States.{epoch_in}
use Rattle.service_machine.specs.Steps.{targets}
use Rattle.wire_frame.specs.declared.frame.Frame.TheVariants.{Subscribe}
use Rattle.node_core.proofs.RewireLemmas.{sends_kept, sends_more, sends_whole, some_epoch}
use Rattle.node_core.proofs.rewiring.outgoing_rewiring.Goals as goal

pub loop-id-preserved-then-is_some : goal.loop-id-preserved-then-is_some
loop-id-preserved-then-is_some c =
    rw add-one (sends_kept c.loop-id.outgoing (λ p. TheSubscribe c.args.clock) c.args.ids.now (targets c.args.edges.now) c.loop-id.id-index c.id-item.result
    (λ log. sends (λ p. TheUnsubscribe (unwrap_or (epoch_in c.args.edges.now p) 0)) (without (targets c.args.edges.now) c.args.ids.now) log) c.loop-id-test.true c.id-item.is
    (sym (some_epoch c.args.edges.now c.id-item.result) ∙ ap (λ o. is_some o) (sym c.epoch.ensures) ∙ sym c.is_some.ensures ∙ c.if-is_some.true) c.loop-id.invariant)

pub loop-id-preserved : goal.loop-id-preserved
loop-id-preserved c =
    rw add-one (sends_more c.loop-id.outgoing c.subscribe.new.self (λ p. TheSubscribe c.args.clock) c.args.ids.now (targets c.args.edges.now) c.loop-id.id-index c.id-item.result (Subscribe c.args.clock)
    (λ log. sends (λ p. TheUnsubscribe (unwrap_or (epoch_in c.args.edges.now p) 0)) (without (targets c.args.edges.now) c.args.ids.now) log) c.loop-id-test.true c.id-item.is
    (sym (some_epoch c.args.edges.now c.id-item.result) ∙ ap (λ o. is_some o) (sym c.epoch.ensures) ∙ sym c.is_some.ensures ∙ c.if-is_some.false) c.loop-id.invariant c.in_ok-subscribe.ensures refl)

pub returns : goal.returns
returns c =
    sends_whole c.loop-id.outgoing (λ p. TheSubscribe c.args.clock) c.args.ids.now (targets c.args.edges.now) c.loop-id.id-index
    (λ log. sends (λ p. TheUnsubscribe (unwrap_or (epoch_in c.args.edges.now p) 0)) (without (targets c.args.edges.now) c.args.ids.now) log) c.loop-id-test.false c.loop-id.invariant
