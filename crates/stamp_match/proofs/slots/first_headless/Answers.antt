use Rattle.std.proofs.Common.{not, sym, ap, ◌∙◌}
use Rattle.stamp_match.proofs.SlotsLemmas.{headless-at, none-copied}
use Rattle.stamp_match.proofs.slots.first_headless.Goals as goal

pub returns-then-is_none-clause-some : goal.returns-then-is_none-clause-some
returns-then-is_none-clause-some c =
    c.loop-place.invariant
    ∙ headless-at c.args.slots.now c.loop-place.place c.index-slots-place.result c.loop-place-test.true c.index-slots-place.is
    (sym c.head.ensures ∙ none-copied c.head.result (c.is_none.ensures ∙ ap not c.if-is_none.true))
