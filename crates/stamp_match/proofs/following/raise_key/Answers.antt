use Rattle.std.proofs.Common.{◌≡◌, false, None, slice_index_or, sym, subst, ap, ◌∙◌}
use Rattle.std.proofs.lemmas.Bool.{ltb-true, ltb-false}
use Rattle.propagation.specs.Stamps.{Stamps, IsRising, clock_of}
use Rattle.service_machine.specs.States.{raise_one}
use Rattle.stamp_match.specs.Kept.{head_stamps, IsFollowed}
use Rattle.stamp_match.proofs.LagLemmas.{one-kept, one-rising, followed-raised_clocks}
use Rattle.stamp_match.proofs.following.raise_key.Goals as goal

pub returns-then-not-is_above-clause-raised : goal.returns-then-not-is_above-clause-raised
returns-then-not-is_above-clause-raised c =
    one-kept c.args.greatest_clocks.now c.args.key c.args.clock c.requires.rising c.requires.positive
    (ltb-false (clock_of c.args.greatest_clocks.now c.args.key) c.args.clock (sym c.is_above.ensures ∙ c.if-not-is_above.true))

pub returns-clause-rising : goal.returns-clause-rising
returns-clause-rising c = subst (λ (T : Stamps). IsRising 0 T) (sym c.raise_one.ensures) (one-rising c.args.greatest_clocks.now c.args.key c.args.clock c.requires.rising c.requires.positive)

pub returns-clause-followed : goal.returns-clause-followed
returns-clause-followed c place lt h =
    let head = slice_index_or (head_stamps c.args.slots.now) place None in
    subst (λ (T : Stamps). IsFollowed T (slice_index_or c.mark.new.lagging place false) head) (sym c.raise_one.ensures)
    (followed-raised_clocks c.args.greatest_clocks.now c.args.key c.args.clock c.requires.rising c.requires.positive (slice_index_or c.args.lagging.now place false) (slice_index_or c.mark.new.lagging place false) head
    (ltb-true (clock_of c.args.greatest_clocks.now c.args.key) c.args.clock (sym c.is_above.ensures ∙ c.if-not-is_above.false)) (c.mark.ensures place lt) h)
