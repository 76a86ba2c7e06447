use Rattle.std.proofs.Common.{◌≡◌, length, sym, subst, ap, ◌∙◌, arith}
use Rattle.propagation.specs.Stamps.{Stamps, clock_of, IsRising}
use Rattle.stamp_match.specs.Kept.{head_stamps, AreRisingHeads}
use Rattle.stamp_match.proofs.TurnLemmas.{length-heads}
use Rattle.stamp_match.proofs.GreatestLemmas.{heads-each, greatest-greatest_clocks, greatest_clocks-rising}
use Rattle.stamp_match.proofs.matcher.Matcher.found.Goals as goal

pub returns-clause-matcher : goal.returns-clause-matcher
returns-clause-matcher g c =
    let same : length (head_stamps c.args.slots.now) ≡ length c.args.slots.now = length-heads c.args.slots.now in
    let rise : AreRisingHeads (head_stamps c.args.slots.now) = heads-each (head_stamps c.args.slots.now) (λ i lt. c.flags-lagging.ensures.rising i (omega arith)) in
    record {
      few = omega arith;
      places = c.flags-lagging.ensures.places;
      floor_rises = c.greatest_clocks-greatest_clocks.ensures.stamps.rising;
      heads_rise = rise;
      tops_rise = subst (λ (S : Stamps). IsRising 0 S) (sym c.greatest_clocks-greatest_clocks.ensures.greatest) (greatest_clocks-rising c.args.slots.now c.args.floor.now c.greatest_clocks-greatest_clocks.ensures.stamps.rising rise);
      greatest_clocks = λ q. ap (λ (S : Stamps). clock_of S q) c.greatest_clocks-greatest_clocks.ensures.greatest ∙ greatest-greatest_clocks c.args.slots.now c.args.floor.now q c.greatest_clocks-greatest_clocks.ensures.stamps.rising rise;
      lagging = λ i lt. c.flags-lagging.ensures.flags i (omega arith);
    }
