use Rattle.std.proofs.Common.{sym, ◌∙◌}
use Rattle.stamp_match.proofs.SlotsLemmas.{waiting-at}
use Rattle.stamp_match.proofs.slots.first_waiting.Goals as goal

pub returns-then-has_next-clause-some : goal.returns-then-has_next-clause-some
returns-then-has_next-clause-some c =
    c.loop-place.invariant ∙ waiting-at c.args.slots.now c.loop-place.place c.index-slots-place.result c.loop-place-test.true c.index-slots-place.is (sym c.has_next.ensures.next ∙ c.if-has_next.true)
