use Rattle.std.proofs.Common.{sym, ap, ◌∙◌}
use Rattle.propagation.specs.Logs.{Emission}
use Rattle.svc_value.specs.declared.value.Value.{Value}
use Rattle.service_machine.specs.Turning.{lag}
use Rattle.stamp_match.proofs.SlotsLemmas.{lagging-at}
use Rattle.stamp_match.proofs.slots.first_lagging.Goals as goal

pub returns-in-loop-place-clause-some : goal.returns-in-loop-place-clause-some
returns-in-loop-place-clause-some g c =
    c.loop-place.invariant.0
    ∙ lagging-at c.args.greatest_clocks.now c.args.slots.now c.loop-place.place c.index-slots-place.result c.in-Some.head.now c.in-Some-first_lag.key c.loop-place-test.true c.index-slots-place.is
    (sym c.in-Some.ensures) (sym (ap (λ (m : Emission Value). lag c.args.greatest_clocks.now m.stamps) c.head-in-loop-place.view_is) ∙ sym c.in-Some-first_lag.ensures.key)
