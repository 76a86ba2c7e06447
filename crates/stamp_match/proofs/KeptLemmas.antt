-- A matcher stays that of its slots.
use Rattle.std.proofs.Common.{◌≡◌, ℕ, ◌<◌, ◌≤◌, max, false, List, [], ◌∷◌, length, set, slice_index_or, Option, None, sym, ap, subst, ◌∙◌, inl, inr, arith}
use Rattle.std.proofs.lemmas.Bool.{cases_eq}
use Rattle.std.proofs.lemmas.List.{length-set, get_or-set_same, get_or-set_other}
use Rattle.propagation.specs.Stamps.{Stamps, clock_of, IsRising}
use Rattle.service_machine.specs.States.{Slot, raise, raise_one, raise_all}
use Rattle.service_machine.specs.Turning.{heads}
use Rattle.service_machine.proofs.Raising.{raise-clock, raise-rising, rising-same}
use Rattle.stamp_match.specs.declared.matcher.Matcher.{Matcher}
use Rattle.stamp_match.specs.Kept.{head_stamps, clock_in, greatest, lags, IsRisingHead, IsFollowed, IsKept}
use Rattle.stamp_match.specs.Moved.{IsMoved}
use Rattle.stamp_match.proofs.GreatestLemmas.{greatest-raised, greatest-within, greatest-above, greatest-beside, greatest-greatest_clocks, greatest_clocks-rising, greatest-moved, heads-at, heads-set}
use Rattle.stamp_match.proofs.LagLemmas.{one-rising}

-- each flag follows the greatest clocks
pub kept-followed : (hs : List (Option Stamps)) (floor : Stamps) (m : Matcher) (i : ℕ) → IsKept hs floor m → i < length hs → IsFollowed m.greatest_clocks (slice_index_or m.lagging i false) (slice_index_or hs i None)
kept-followed hs floor m i h lt = record {
  rising = heads-at hs i h.heads_rise;
  within = λ q. let le : clock_in (slice_index_or hs i None) q ≤ greatest floor hs q = greatest-within floor hs i q lt in let is : clock_of m.greatest_clocks q ≡ greatest floor hs q = h.greatest_clocks q in omega arith;
  flag = h.lagging i lt;
}

-- the floor and the greatest clocks are raised alike
pub kept-raised : (hs : List (Option Stamps)) (floor S : Stamps) (m new : Matcher) → IsKept hs floor m → IsRising 0 S → length new.lagging ≡ 16 → new.greatest_clocks ≡ raise m.greatest_clocks S →
    ((i : ℕ) → i < length hs → IsFollowed m.greatest_clocks (slice_index_or m.lagging i false) (slice_index_or hs i None) → IsFollowed new.greatest_clocks (slice_index_or new.lagging i false) (slice_index_or hs i None)) →
    IsKept hs (raise floor S) new
kept-raised hs floor S m new h s long is followed = record {
  few = h.few;
  places = long;
  floor_rises = raise-rising floor 0 S h.floor_rises s;
  heads_rise = h.heads_rise;
  tops_rise = subst (λ (T : Stamps). IsRising 0 T) (sym is) (raise-rising m.greatest_clocks 0 S h.tops_rise s);
  greatest_clocks = λ q.
      ap (λ (T : Stamps). clock_of T q) is ∙ raise-clock m.greatest_clocks 0 S q h.tops_rise s ∙ ap (λ n. max n (clock_of S q)) (h.greatest_clocks q) ∙ sym (greatest-raised floor S hs q h.floor_rises s);
  lagging = λ i lt. (followed i lt (kept-followed hs floor m i h lt)).flag;
}

-- the floor takes the greatest clocks, of which one is raised
pub kept-topped : (hs : List (Option Stamps)) (floor top : Stamps) (k c : ℕ) (m new : Matcher) → 0 < c → IsKept hs floor m → length new.lagging ≡ 16 → new.greatest_clocks ≡ raise_one m.greatest_clocks k c → top ≡ new.greatest_clocks →
    ((i : ℕ) → i < length hs → IsFollowed m.greatest_clocks (slice_index_or m.lagging i false) (slice_index_or hs i None) → IsFollowed new.greatest_clocks (slice_index_or new.lagging i false) (slice_index_or hs i None)) →
    IsKept hs top new
kept-topped hs floor top k c m new pos h long is at followed =
    let rises : IsRising 0 new.greatest_clocks = subst (λ (T : Stamps). IsRising 0 T) (sym is) (one-rising m.greatest_clocks k c h.tops_rise pos) in
    subst (λ (F : Stamps). IsKept hs F new) (sym at) (record {
      few = h.few;
      places = long;
      floor_rises = rises;
      heads_rise = h.heads_rise;
      tops_rise = rises;
      greatest_clocks = λ q. greatest-above new.greatest_clocks hs q (λ i lt. (followed i lt (kept-followed hs floor m i h lt)).within q);
      lagging = λ i lt. (followed i lt (kept-followed hs floor m i h lt)).flag;
    })

-- they are those of the floor and of the union of the heads with that clock
pub topped-union : {V : Type 0} (slots : List (Slot V)) (floor : Stamps) (k c : ℕ) (m : Matcher) → 0 < c → IsKept (head_stamps slots) floor m →
    raise_one m.greatest_clocks k c ≡ raise floor (raise_all ((k, c) ∷ []) (heads slots))
topped-union {V} slots floor k c m pos h =
    rising-same 0 0 (raise_one m.greatest_clocks k c) (raise floor (raise_all ((k, c) ∷ []) (heads slots))) (one-rising m.greatest_clocks k c h.tops_rise pos) (raise-rising floor 0 (raise_all ((k, c) ∷ []) (heads slots)) h.floor_rises rises) pointwise
  where
    one-rises : IsRising 0 ((k, c) ∷ [])
    one-rises = (omega arith, pos, tt)

    rises : IsRising 0 (raise_all ((k, c) ∷ []) (heads slots))
    rises = greatest_clocks-rising slots ((k, c) ∷ []) one-rises h.heads_rise

    pointwise : (q : ℕ) → clock_of (raise_one m.greatest_clocks k c) q ≡ clock_of (raise floor (raise_all ((k, c) ∷ []) (heads slots))) q
    pointwise q =
        let left : clock_of (raise_one m.greatest_clocks k c) q ≡ max (clock_of m.greatest_clocks q) (clock_of ((k, c) ∷ []) q) = raise-clock m.greatest_clocks k ((k, c) ∷ []) q h.tops_rise (omega arith, pos, tt) in
        let top : clock_of m.greatest_clocks q ≡ greatest floor (head_stamps slots) q = h.greatest_clocks q in
        let right : clock_of (raise floor (raise_all ((k, c) ∷ []) (heads slots))) q ≡ max (clock_of floor q) (clock_of (raise_all ((k, c) ∷ []) (heads slots)) q) = raise-clock floor 0 (raise_all ((k, c) ∷ []) (heads slots)) q h.floor_rises rises in
        let all : clock_of (raise_all ((k, c) ∷ []) (heads slots)) q ≡ greatest ((k, c) ∷ []) (head_stamps slots) q = greatest-greatest_clocks slots ((k, c) ∷ []) q one-rises h.heads_rise in
        let beside : max (clock_of floor q) (greatest ((k, c) ∷ []) (head_stamps slots) q) ≡ max (greatest floor (head_stamps slots) q) (clock_of ((k, c) ∷ []) q) = greatest-beside floor ((k, c) ∷ []) (head_stamps slots) q in
        omega arith

-- another head comes, and no greatest clock above the floor's falls
pub kept-moved : (hs : List (Option Stamps)) (floor : Stamps) (place : ℕ) (head : Option Stamps) (m new : Matcher) → place < length hs → IsKept hs floor m → IsMoved (set hs place head) place m new →
    ((q : ℕ) → clock_of m.greatest_clocks q ≤ clock_in (slice_index_or hs place None) q → clock_of floor q < clock_in (slice_index_or hs place None) q → clock_in (slice_index_or hs place None) q ≤ clock_in head q) →
    IsKept (set hs place head) floor new
kept-moved hs floor place head m new lt h moved stays =
    let there : slice_index_or (set hs place head) place None ≡ head = get_or-set_same hs place head None lt in
    record {
      few = let long : length (set hs place head) ≡ length hs = length-set hs place head in let few : length hs ≤ 16 = h.few in omega arith;
      places = moved.places;
      floor_rises = h.floor_rises;
      heads_rise = heads-set hs place head h.heads_rise (subst IsRisingHead there moved.head);
      tops_rise = moved.rising;
      greatest_clocks = λ q.
          moved.raised q ∙ ap (λ o. max (clock_of m.greatest_clocks q) (clock_in o q)) there ∙ ap (λ n. max n (clock_in head q)) (h.greatest_clocks q)
          ∙ greatest-moved floor hs place head q lt (λ top above. stays q (let is : clock_of m.greatest_clocks q ≡ greatest floor hs q = h.greatest_clocks q in omega arith) above);
      lagging = λ i lt_i.
          elim (cases_eq i place) [
            | inl e ↦ subst (λ j. slice_index_or new.lagging j false ≡ lags new.greatest_clocks (slice_index_or (set hs place head) j None)) (sym e) moved.own
            | inr ne ↦
                (let same : slice_index_or (set hs place head) i None ≡ slice_index_or hs i None = get_or-set_other hs place i head None ne in
                let within : i < length hs = omega (arith, length-set hs place head) in
                (moved.others i lt_i ne (subst (λ o. IsFollowed m.greatest_clocks (slice_index_or m.lagging i false) o) (sym same) (kept-followed hs floor m i h within))).flag)
          ];
    }
