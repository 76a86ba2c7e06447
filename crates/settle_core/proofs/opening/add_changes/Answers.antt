use Rattle.std.proofs.Common.{◌<◌, List, length, subst, sym, arith}
use Rattle.std.proofs.lemmas.List.{take_all}
use Rattle.svc_plan.specs.declared.plan.PlanChange.{PlanChange}
use Rattle.settle_core.specs.Inside.Beginning.{AreParts}
use Rattle.settle_core.proofs.BeginLemmas.{handed_next}
use Rattle.settle_core.proofs.opening.add_changes.Goals as goal

pub loop-next-preserved : goal.loop-next-preserved
loop-next-preserved c =
    let P : PlanChange → Type 0 = λ x. x.id < length c.args.all.now.items in
    handed_next c.args.all.now.items c.args.changes.now c.loop-next.next-index c.next-item.result c.loop-next.all.items c.add_change.new.all.items c.loop-next-test.true c.next-item.is
    (subst P (sym c.next-item.is) (c.requires c.loop-next.next-index c.next-item.result c.loop-next-test.true)) c.loop-next.invariant c.in_ok-add_change.ensures

pub returns : goal.returns
returns c = λ count roster parts.
    let P : List PlanChange → Type 0 = λ xs. AreParts count roster xs c.loop-next.all.items in
    subst P (take_all c.loop-next.next-index c.args.changes.now (omega (arith, c.loop-next-test.false))) (c.loop-next.invariant.begun_is count roster parts)
