use Rattle.std.proofs.Common.{◌<◌, false, length, slice_index_or, None, sym, subst, ap, ◌∙◌, arith}
use Rattle.std.proofs.lemmas.List.{length-set, get_or-set_same, get_or-set_other}
use Rattle.stamp_match.specs.Kept.{head_stamps, lags, IsRisingHead, IsFollowed}
use Rattle.stamp_match.proofs.TurnLemmas.{head-at}
use Rattle.stamp_match.proofs.matcher.Matcher.follow.Goals as goal

pub returns-clause-moved : goal.returns-clause-moved
returns-clause-moved g c =
    let heads = head_stamps c.args.slots.now in
    let old = c.raise_head.new.self.lagging in
    let at = head-at c.args.slots.now c.args.place c.index-slots-place.result c.requires.place c.index-slots-place.is in
    let room : c.args.place < length old = omega (arith, c.raise_head.ensures.raised.places, c.requires.place, c.requires.few) in
    record {
      places = length-set old c.args.place c.head_lags.result ∙ c.raise_head.ensures.raised.places;
      rising = c.raise_head.ensures.raised.rising;
      head = subst IsRisingHead (sym at) c.head_lags.ensures.rising;
      raised = c.raise_head.ensures.raised.raised;
      others = λ other lt ne h.
          subst (λ flag. IsFollowed c.raise_head.new.self.greatest_clocks flag (slice_index_or heads other None)) (sym (get_or-set_other old c.args.place other c.head_lags.result false ne)) (c.raise_head.ensures.raised.followed other lt h);
      own = get_or-set_same old c.args.place c.head_lags.result false room ∙ c.head_lags.ensures.flag ∙ ap (λ o. lags c.raise_head.new.self.greatest_clocks o) (sym at);
    }
