use Rattle.std.proofs.Common.{◌≡◌, ◌∙◌, ◌-◌, ◌<◌, false, length, get_or, sym, subst, arith}
use Rattle.std.proofs.lemmas.List.{get_or_default}
use Rattle.propagation.specs.Lists.{Has}
use Rattle.svc_graph.proofs.Ordered.{services_within}
use Rattle.svc_graph.proofs.Reached.{Below, Marked, Marked-more, Marked-one, Has-marked, Rise-filter, marked-Has, marked-reached}
use Rattle.svc_graph.proofs.book.Book.closure.Goals as goal

pub loop-step-init : goal.loop-step-init
loop-step-init c =
    Marked-one c.args.self.now c.as_slice-order.result.now c.args.id c.one_mark-marks.result
    (rw c.as_slice-order.ensures c.in_ok-order.ensures.all) (rw c.as_slice-order.ensures c.in_ok-order.ensures.ordered) c.one_mark-marks.ensures.len c.one_mark-marks.ensures.mark

pub mark_below-requires-clause-declared : goal.mark_below-requires-clause-declared
mark_below-requires-clause-declared c =
    let ids = c.as_slice-order.result.now in
    let k = length ids - 1 - c.loop-step.step in
    let small : k < length ids = omega (arith, c.loop-step-test.true) in
    let item : get_or ids k 0 ≡ c.index-order-order.result = get_or_default ids k 0 c.index-order-order.result small ∙ sym c.index-order-order.is in
    rw (← item) (services_within c.args.self.now ids c.loop-step.invariant.all k small)

pub loop-step-preserved : goal.loop-step-preserved
loop-step-preserved c =
    let ids = c.as_slice-order.result.now in
    let k = length ids - 1 - c.loop-step.step in
    let small : k < length ids = omega (arith, c.loop-step-test.true) in
    let item : c.index-order-order.result ≡ get_or ids k 0 = c.index-order-order.is ∙ get_or_default ids k c.index-order-order.result 0 small in
    let below : Below c.args.self.now c.index-order-order.result c.loop-step.marks c.mark_below.new.marks = record { marks = c.in_ok-mark_below.ensures } in
    Marked-more c.args.self.now c.len-count.ensures.book ids c.args.id c.loop-step.step c.index-order-order.result c.loop-step.marks c.mark_below.new.marks c.loop-step.invariant c.loop-step-test.true item
    (c.mark_below.auto.marks ∙ c.loop-step.invariant.room) below

pub returns-clause-rising : goal.returns-clause-rising
returns-clause-rising c = rw (c.from_vec.ensures, c.in_ok-marked_services.ensures) (Rise-filter (λ p. get_or c.loop-step.marks p false) c.len-count.result)

pub returns-clause-reached : goal.returns-clause-reached
returns-clause-reached c q has =
    let listed = subst (λ ids. Has ids q) (c.from_vec.ensures ∙ c.in_ok-marked_services.ensures) has in
    c.loop-step.invariant.sound q (marked-Has (λ p. get_or c.loop-step.marks p false) c.len-count.result q listed)

pub returns-clause-all : goal.returns-clause-all
returns-clause-all c q reach =
    let rows = c.args.self.now in
    let ids = c.as_slice-order.result.now in
    let steps : c.loop-step.step ≡ length ids = omega (arith, c.loop-step-test.false, c.loop-step.auto.step-end) in
    let marked = subst (λ step. Marked rows ids c.args.id step c.loop-step.marks) steps c.loop-step.invariant in
    let there = marked-reached rows ids c.args.id c.loop-step.marks c.len-count.ensures.book c.requires marked q reach in
    rw (c.from_vec.ensures, c.in_ok-marked_services.ensures) (Has-marked (λ p. get_or c.loop-step.marks p false) c.len-count.result q (omega (arith, there.1, c.len-count.ensures.len)) there.0)
