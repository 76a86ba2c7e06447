-- Stamps by the places of their keys.
use Rattle.std.proofs.Common.{◌≡◌, ◌≢◌, ℕ, zero, suc, ◌<◌, ◌≤◌, ◌+◌, ◌==◌, Bool, true, false, cond, List, [], ◌∷◌, ◌++◌, length, drop, slice_index, refl, sym, ap, ◌∙◌, arith, append_assoc}
use Rattle.std.specs.Prelude.{All}
use Rattle.std.proofs.lemmas.List.{append-nil}
use Rattle.std.proofs.lemmas.Bool.{cond-true, cond-false}
use Rattle.std.proofs.lemmas.List.Elements.{All-head, All-tail}
use Rattle.propagation.specs.Stamps.{Stamps, IsRising, keys, all_places, changed_places, same_keys}
use Rattle.stamp_clock.specs.Beside.{AreStamps, clocks}
use Rattle.wire_frame.specs.declared.place_clock.PlaceClock.{PlaceClock}
use Rattle.wire_frame.specs.Frames.{pairs}

-- rising keys below 64 are few
few_keys : (least : ℕ) (S : Stamps) → least ≤ 64 → IsRising least S → All (λ pair. pair.0 < 64) S → least + length S ≤ 64
few_keys least [] le rising below = omega (arith, le)
few_keys least (x ∷ rest) le rising below =
    let lt : x.0 < 64 = All-head (λ pair. pair.0 < 64) x rest below in
    let more : suc x.0 + length rest ≤ 64 = few_keys (suc x.0) rest (omega (arith, lt)) rising.2 (All-tail (λ pair. pair.0 < 64) x rest below) in
    omega (arith, more, rising.0)

pub few_stamps : (S : Stamps) → AreStamps S → length S ≤ 64
few_stamps S are = let more : 0 + length S ≤ 64 = few_keys 0 S (omega arith) are.rising are.below in omega (arith, more)

-- the pair at a place, and those behind it
pub stamps_at : (S : Stamps) (i : ℕ) → i < length S → drop i S ≡ (slice_index (keys S) i, slice_index (clocks S) i) ∷ drop (suc i) S
stamps_at [] i lt = absurd (omega arith)
stamps_at (x ∷ rest) zero lt = refl
stamps_at (x ∷ rest) (suc i) lt = stamps_at rest i (omega arith)

-- behind the last place nothing is left
pub nothing_left : {A : Type 0} (xs : List A) (i : ℕ) → length xs ≤ i → drop i xs ≡ []
nothing_left [] zero h = refl
nothing_left [] (suc i) h = refl
nothing_left (x ∷ xs) zero h = absurd (omega (arith, h))
nothing_left (x ∷ xs) (suc i) h = nothing_left xs i (omega (arith, h))

-- one place more
pub pairs_append : (xs ys : List PlaceClock) → pairs (xs ++ ys) ≡ pairs xs ++ pairs ys
pairs_append [] ys = refl
pairs_append (x ∷ xs) ys = ap (λ zs. (x.place, x.clock) ∷ zs) (pairs_append xs ys)

pub places_next : (made : List PlaceClock) (S : Stamps) (i place clock : ℕ) → i < length S → place ≡ i → clock ≡ slice_index (clocks S) i →
    pairs (made ++ record { place = place; clock = clock } ∷ []) ++ all_places (suc i) (drop (suc i) S) ≡ pairs made ++ all_places i (drop i S)
places_next made S i place clock lt p c =
    ap (λ zs. zs ++ all_places (suc i) (drop (suc i) S)) (pairs_append made (record { place = place; clock = clock } ∷ []) ∙ ap (λ k. pairs made ++ (k, clock) ∷ []) p ∙ ap (λ k. pairs made ++ (i, k) ∷ []) c)
    ∙ append_assoc (pairs made) ((i, slice_index (clocks S) i) ∷ []) (all_places (suc i) (drop (suc i) S))
    ∙ ap (λ (R : Stamps). pairs made ++ all_places i R) (sym (stamps_at S i lt))

pub places_done : (made : List (ℕ × ℕ)) (S : Stamps) (i : ℕ) → length S ≤ i → made ++ all_places i (drop i S) ≡ all_places 0 S → made ≡ all_places 0 S
places_done made S i h is = sym (append-nil made) ∙ ap (λ (R : Stamps). made ++ all_places i R) (sym (nothing_left S i h)) ∙ is

-- where the keys are the same
pub same_length : (old S : Stamps) → same_keys old S ≡ true → length old ≡ length S
same_length [] [] e = refl
same_length [] (x ∷ S) e = absurd (cc e)
same_length (o ∷ old) [] e = absurd (cc e)
same_length (o ∷ old) (x ∷ S) e = go (o.0 == x.0) e (same_length old S)
  where
    go : (b : Bool) → cond b (same_keys old S) false ≡ true → (same_keys old S ≡ true → length old ≡ length S) → suc (length old) ≡ suc (length S)
    go true h rec = ap (λ n. suc n) (rec h)
    go false h rec = absurd (cc h)

pub other_length : (old S : Stamps) → length old ≢ length S → same_keys old S ≡ false
other_length old S ne = go (same_keys old S) refl
  where
    go : (b : Bool) → same_keys old S ≡ b → b ≡ false
    go true e = absurd (ne (same_length old S e))
    go false e = refl

-- one change more
pub changed_next : (old S : Stamps) (i : ℕ) → i < length old → i < length S →
    changed_places i (drop i old) (drop i S) ≡ cond (slice_index (clocks old) i == slice_index (clocks S) i) (changed_places (suc i) (drop (suc i) old) (drop (suc i) S))
    ((i, slice_index (clocks S) i) ∷ changed_places (suc i) (drop (suc i) old) (drop (suc i) S))
changed_next old S i lt lt2 =
    ap (λ (R : Stamps). changed_places i R (drop i S)) (stamps_at old i lt)
    ∙ ap (λ (R : Stamps). changed_places i ((slice_index (keys old) i, slice_index (clocks old) i) ∷ drop (suc i) old) R) (stamps_at S i lt2)

pub change_next : (before made : List (ℕ × ℕ)) (old S : Stamps) (i place a b : ℕ) → i < length S → length old ≡ length S → place ≡ i → a ≡ slice_index (clocks old) i → b ≡ slice_index (clocks S) i →
    made ≡ cond (a == b) before (before ++ (place, b) ∷ []) → made ++ changed_places (suc i) (drop (suc i) old) (drop (suc i) S) ≡ before ++ changed_places i (drop i old) (drop i S)
change_next before made old S i place a b lt same p ea eb is = go (a == b) refl
  where
    rest : List (ℕ × ℕ)
    rest = changed_places (suc i) (drop (suc i) old) (drop (suc i) S)

    step : changed_places i (drop i old) (drop i S) ≡ cond (a == b) rest ((i, b) ∷ rest)
    step = changed_next old S i (omega (arith, lt, same)) lt ∙ ap (λ k. cond (k == slice_index (clocks S) i) rest ((i, slice_index (clocks S) i) ∷ rest)) (sym ea) ∙ ap (λ k. cond (a == k) rest ((i, k) ∷ rest)) (sym eb)

    go : (t : Bool) → (a == b) ≡ t → made ++ rest ≡ before ++ changed_places i (drop i old) (drop i S)
    go true e = ap (λ zs. zs ++ rest) (is ∙ cond-true (a == b) before (before ++ (place, b) ∷ []) e) ∙ ap (λ zs. before ++ zs) (sym (step ∙ cond-true (a == b) rest ((i, b) ∷ rest) e))
    go false e = ap (λ zs. zs ++ rest) (is ∙ cond-false (a == b) before (before ++ (place, b) ∷ []) e ∙ ap (λ k. before ++ (k, b) ∷ []) p) ∙ append_assoc before ((i, b) ∷ []) rest
        ∙ ap (λ zs. before ++ zs) (sym (step ∙ cond-false (a == b) rest ((i, b) ∷ rest) e))

pub changes_done : (made : List (ℕ × ℕ)) (old S : Stamps) (i : ℕ) → length S ≤ i → length old ≡ length S → made ++ changed_places i (drop i old) (drop i S) ≡ changed_places 0 old S → made ≡ changed_places 0 old S
changes_done made old S i h same is =
    sym (append-nil made) ∙ ap (λ (R : Stamps). made ++ changed_places i R (drop i S)) (sym (nothing_left old i (omega (arith, h, same)))) ∙ is
