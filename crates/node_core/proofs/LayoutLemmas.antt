-- Frames of stamps are within their layout.
use Rattle.std.proofs.Common.{◌≡◌, ℕ, suc, ◌<◌, ◌+◌, ◌==◌, Bool, true, false, cond, List, [], ◌∷◌, length, refl, sym, ap, subst, ◌∙◌, arith, inl, inr}
use Rattle.std.specs.Prelude.{All}
use Rattle.std.proofs.lemmas.List.Elements.{All-nil, All-cons}
use Rattle.propagation.specs.Lists.{Has}
use Rattle.propagation.specs.Stamps.{Stamps, IsRising, Rise, RisePairs, keys, all_places, changed_places}
use Rattle.propagation.proofs.Places.{rise-all_places, rise-changed_places}
use Rattle.stamp_clock.specs.Beside.{AreStamps}
use Rattle.svc_value.specs.declared.value.Value.{Value}
use Rattle.wire_frame.specs.declared.place_clock.PlaceClock.{PlaceClock}
use Rattle.wire_frame.specs.Frames.{IsAnnounced, IsDelta, pairs}
use Rattle.node_core.proofs.StampsLemmas.{few_stamps}

-- places are below the number of keys
low_places : (k : ℕ) (S : Stamps) (x : ℕ × ℕ) → Has (all_places k S) x → x.0 < k + length S
low_places k [] x has = absurd has
low_places k (p ∷ S) x (inl e) = let same : k ≡ x.0 = ap (λ (z : ℕ × ℕ). z.0) e in omega (arith, same)
low_places k (p ∷ S) x (inr has) = let more : x.0 < suc k + length S = low_places (suc k) S x has in omega (arith, more)

low_changes : (k : ℕ) (old S : Stamps) (x : ℕ × ℕ) → Has (changed_places k old S) x → x.0 < k + length S
low_changes k [] S x has = absurd has
low_changes k (o ∷ old) [] x has = absurd has
low_changes k (o ∷ old) (p ∷ S) x has = go (o.1 == p.1) has (low_changes (suc k) old S x)
  where
    go : (b : Bool) → Has (cond b (changed_places (suc k) old S) ((k, p.1) ∷ changed_places (suc k) old S)) x → (Has (changed_places (suc k) old S) x → x.0 < suc k + length S) → x.0 < k + suc (length S)
    go true h rec = let more = rec h in omega (arith, more)
    go false (inl e) rec = let same : k ≡ x.0 = ap (λ (z : ℕ × ℕ). z.0) e in omega (arith, same)
    go false (inr h) rec = let more = rec h in omega (arith, more)

below_pairs : (clocks : List PlaceClock) → ((x : ℕ × ℕ) → Has (pairs clocks) x → x.0 < 64) → All (λ named. named.place < 64) clocks
below_pairs [] low = All-nil (λ named. named.place < 64)
below_pairs (c ∷ clocks) low = All-cons (λ named. named.place < 64) c clocks (low (c.place, c.clock) (inl refl)) (below_pairs clocks (λ x has. low x (inr has)))

rising_keys : (least : ℕ) (S : Stamps) → IsRising least S → Rise least (keys S)
rising_keys least [] rising = tt
rising_keys least (x ∷ S) rising = (rising.0, rising_keys (suc x.0) S rising.2)

length_keys : (S : Stamps) → length (keys S) ≡ length S
length_keys [] = refl
length_keys (x ∷ S) = ap (λ n. suc n) (length_keys S)

pub announced_layout : (S : Stamps) (ids : List ℕ) → AreStamps S → ids ≡ keys S → 0 < length S → IsAnnounced (record { epoch = 1; keys = ids })
announced_layout S ids are is some =
    let len : length ids ≡ length S = ap (λ (ks : List ℕ). length ks) is ∙ length_keys S in
    record {
      epoch = omega arith;
      some = omega (arith, len, some);
      most = omega (arith, len, few_stamps S are);
      rise = (let P : List ℕ → Type 0 = λ ks. Rise 0 ks in subst P (sym is) (rising_keys 0 S are.rising));
    }

pub full_layout : (S : Stamps) (value : Value) (clocks : List PlaceClock) → AreStamps S → pairs clocks ≡ all_places 0 S → IsDelta (record { epoch = 1; value = value; clocks = clocks })
full_layout S value clocks are is =
    record {
      epoch = omega arith;
      rise = (let P : List (ℕ × ℕ) → Type 0 = λ ps. RisePairs 0 ps in subst P (sym is) (rise-all_places 0 0 S are.rising));
      below = below_pairs clocks (λ x has. let P : List (ℕ × ℕ) → Type 0 = λ ps. Has ps x in let low : x.0 < 0 + length S = low_places 0 S x (subst P is has) in omega (arith, low, few_stamps S are));
    }

pub change_layout : (old S : Stamps) (value : Value) (clocks : List PlaceClock) → AreStamps S → pairs clocks ≡ changed_places 0 old S → IsDelta (record { epoch = 1; value = value; clocks = clocks })
change_layout old S value clocks are is =
    record {
      epoch = omega arith;
      rise = (let P : List (ℕ × ℕ) → Type 0 = λ ps. RisePairs 0 ps in subst P (sym is) (rise-changed_places 0 0 old S are.rising));
      below = below_pairs clocks (λ x has. let P : List (ℕ × ℕ) → Type 0 = λ ps. Has ps x in let low : x.0 < 0 + length S = low_changes 0 old S x (subst P is has) in omega (arith, low, few_stamps S are));
    }
