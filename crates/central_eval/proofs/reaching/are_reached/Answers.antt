use Rattle.std.proofs.Common.{◌≡◌, ◌∙◌, ◌<◌, ◌||◌, length, get_or, false, ap, sym, subst, refl, arith}
use Rattle.central_eval.proofs.Marking.{AreMarked, AreMarked-more, AreReached-marked, key-marked, marked-key}
use Rattle.propagation.specs.History.{deps}
use Rattle.propagation.specs.Stamps.{clock_of}
use Rattle.propagation.specs.Lists.{is_among}
use Rattle.svc_graph.specs.History.{theory}
use Rattle.central_eval.proofs.reaching.are_reached.Goals as goal

pub loop-number-preserved : goal.loop-number-preserved
loop-number-preserved c =
    let rows = c.args.book.now in
    let n = c.loop-number.number in
    AreMarked-more rows (clock_of c.args.stamps.now) c.args.id n c.loop-number.marks c.mark_below.new.marks (c.mark_below.auto.marks ∙ c.loop-number.invariant.room)
    (λ q. c.mark_below.ensures q ∙ ap (λ clock. get_or c.loop-number.marks q false || is_among (deps (theory rows) n clock) q) c.clock_in.ensures) c.loop-number.invariant

pub returns-then-not-is_marked_as_key : goal.returns-then-not-is_marked_as_key
returns-then-not-is_marked_as_key c =
    let rows = c.args.book.now in
    let n = c.loop-key.key in
    let marks = c.loop-number.marks in
    let all : c.loop-number.number ≡ length rows = omega (arith, c.loop-number-test.false, c.loop-number.auto.number-end, c.len-count.ensures.len) in
    let marked = subst (λ k. AreMarked rows (clock_of c.args.stamps.now) c.args.id k marks) all c.loop-number.invariant in (
      λ t. absurd (cc t),
      λ reached. absurd (cc (sym c.if-not-is_marked_as_key.true ∙ c.is_marked_as_key.ensures.1 (
        λ is. subst (λ clock. 0 < clock) (sym c.clock_in-in-loop-key.ensures) (marked-key rows c.len-count.ensures.book c.args.id c.requires.declared c.args.stamps.now marks marked reached n is),
        λ key. key-marked rows c.len-count.ensures.book c.args.id c.requires.declared c.args.stamps.now marks marked reached n (subst (λ clock. 0 < clock) c.clock_in-in-loop-key.ensures key),
      ))),
    )

pub returns : goal.returns
returns c =
    let rows = c.args.book.now in
    let marks = c.loop-number.marks in
    let all : c.loop-number.number ≡ length rows = omega (arith, c.loop-number-test.false, c.loop-number.auto.number-end, c.len-count.ensures.len) in
    let marked = subst (λ k. AreMarked rows (clock_of c.args.stamps.now) c.args.id k marks) all c.loop-number.invariant in (
      λ t. AreReached-marked rows c.len-count.ensures.book c.args.id c.requires.declared c.args.stamps.now marks marked c.requires.in_time
          (λ q declared. c.loop-key.invariant q (omega (arith, c.loop-key-test.false, c.len-count.ensures.len))),
      λ reached. refl,
    )
