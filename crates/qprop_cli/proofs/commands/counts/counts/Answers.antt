use Rattle.std.proofs.Common.{[], ◌∙◌, ap₂, sym, arith, ◌+◌}
use Rattle.qprop_cli.proofs.CountLemmas.{leg_few, services_next, changes_next}
use Rattle.qprop_cli.proofs.commands.counts.counts.Goals as goal

pub overflow_add-services : goal.overflow_add-services
overflow_add-services c =
    omega (arith, (leg_few [] c.args.legs.now c.loop-leg.leg-index c.leg-item.result c.loop-leg-test.true c.leg-item.is c.requires.legs).0, c.loop-leg.invariant.2, c.len.ensures, c.requires.few)

pub overflow_add-changes : goal.overflow_add-changes
overflow_add-changes c =
    omega (arith, (leg_few [] c.args.legs.now c.loop-leg.leg-index c.leg-item.result c.loop-leg-test.true c.leg-item.is c.requires.legs).1, c.loop-leg.invariant.3, c.len-in-loop-leg.ensures, c.requires.few)

pub loop-leg-preserved : goal.loop-leg-preserved
loop-leg-preserved c =
    let few = leg_few [] c.args.legs.now c.loop-leg.leg-index c.leg-item.result c.loop-leg-test.true c.leg-item.is c.requires.legs in (
      ap₂ (λ a b. a + b) c.loop-leg.invariant.0 c.len.ensures ∙ sym (services_next c.args.legs.now c.loop-leg.leg-index c.leg-item.result c.loop-leg-test.true c.leg-item.is),
      ap₂ (λ a b. a + b) c.loop-leg.invariant.1 c.len-in-loop-leg.ensures ∙ sym (changes_next c.args.legs.now c.loop-leg.leg-index c.leg-item.result c.loop-leg-test.true c.leg-item.is),
      omega (arith, few.0, c.loop-leg.invariant.2, c.len.ensures),
      omega (arith, few.1, c.loop-leg.invariant.3, c.len-in-loop-leg.ensures),
    )
