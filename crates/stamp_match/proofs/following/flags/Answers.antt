use Rattle.std.proofs.Common.{◌≡◌, ◌+◌, ◌<◌, false, None, drop, length, slice_index_or, set, sym, subst, ap, ◌∙◌, inl, inr, arith}
use Rattle.std.proofs.lemmas.Bool.{cases_eq}
use Rattle.std.proofs.lemmas.List.{length-set, get_or-set_same, get_or-set_other}
use Rattle.stamp_match.specs.Kept.{head_stamps, lags, IsRisingHead}
use Rattle.stamp_match.specs.Looks.{head_keys, keys_in}
use Rattle.stamp_match.proofs.TurnLemmas.{head-at, keys-drop}
use Rattle.stamp_match.proofs.following.flags.Goals as goal

pub loop-place-preserved : goal.loop-place-preserved
loop-place-preserved g c =
    let place = c.loop-place.place in
    let heads = head_stamps c.args.slots.now in
    let at = head-at c.args.slots.now place c.index-slots-place.result c.loop-place-test.true c.index-slots-place.is in
    let room : place < length c.loop-place.lagging = omega (arith, c.loop-place.invariant.places, c.requires) in
    let keys : head_keys (drop place c.args.slots.now) ≡ keys_in c.index-slots-place.result.head + head_keys (drop (place + 1) c.args.slots.now) = keys-drop c.args.slots.now place c.index-slots-place.result c.loop-place-test.true c.index-slots-place.is in
    record {
      places = length-set c.loop-place.lagging place c.head_lags.result ∙ c.loop-place.invariant.places;
      found = λ i lt.
          elim (cases_eq i place) [
            | inl e ↦ subst (λ j. slice_index_or (set c.loop-place.lagging place c.head_lags.result) j false ≡ lags c.args.greatest_clocks.now (slice_index_or heads j None)) (sym e)
                (get_or-set_same c.loop-place.lagging place c.head_lags.result false room ∙ c.head_lags.ensures.flag ∙ ap (λ o. lags c.args.greatest_clocks.now o) (sym at))
            | inr ne ↦ get_or-set_other c.loop-place.lagging place i c.head_lags.result false ne ∙ c.loop-place.invariant.found i (omega arith)
          ];
      rising = λ i lt.
          elim (cases_eq i place) [
            | inl e ↦ subst (λ j. IsRisingHead (slice_index_or heads j None)) (sym e) (subst IsRisingHead (sym at) c.head_lags.ensures.rising)
            | inr ne ↦ c.loop-place.invariant.rising i (omega arith)
          ];
      looks = omega (arith, keys, c.head_lags.ensures.looks, c.loop-place.invariant.looks);
    }
