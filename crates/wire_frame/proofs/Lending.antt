-- Items that stand in bytes which lend them.
use Rattle.std.proofs.Common.{◌≡◌, ◌∙◌, sym, ap, refl, subst, ℕ, zero, suc, ◌+◌, ◌*◌, ◌/◌, ◌-◌, ◌<◌, ◌≤◌, inl, inr, List, [], ◌∷◌, ◌++◌, length, get_or, drop, take, flat_map, Some, arith}
use Rattle.std.specs.Int.{w16, from_be_bytes}
use Rattle.std.specs.List.{slice_get, slice_range}
use Rattle.std.proofs.Math.Nat.{div-eq_of_lt, div-eq-sub-div}
use Rattle.std.proofs.lemmas.Bool.{cases_lt}
use Rattle.std.proofs.lemmas.List.{take_at, drop-drop, length-drop}
use Rattle.std.proofs.lemmas.Nat.{from_be_bytes-to_be_bytes_2, from_be_bytes-to_be_bytes_4}
use Rattle.wire_frame.specs.declared.place_clock.PlaceClock.{PlaceClock}
use Rattle.wire_frame.specs.Lent.{keys_in, named_in, named_by}
use Rattle.wire_frame.specs.Parts.{Stands}
use Rattle.wire_frame.specs.Runs.{Items, IsRun, run_part, key_items, place_items}

-- ---- items of one size

-- what is known of items that are read off bytes, so many bytes each: too few bytes have none, others have one in front, and each is read as it was written
pub record AreLent {X : Type 0} (items : Items X) (size : ℕ) (items_in : List ℕ → List X) : Type 0 where
  pub some : 0 < size
  pub none : (bytes : List ℕ) → length bytes < size → items_in bytes ≡ []
  pub first : (bytes : List ℕ) → size ≤ length bytes → (x : X) × (items_in bytes ≡ x ∷ items_in (drop size bytes))
  pub back : (least left : ℕ) (x : X) (rest : List ℕ) → items.Good least left x → items_in (items.bytes x ++ rest) ≡ x ∷ items_in rest

element : {X : Type 0} (i : ℕ) (xs ys : List X) (x : X) → drop i xs ≡ x ∷ ys → slice_get xs i ≡ Some x
element zero [] ys x e = cc
element zero (y ∷ xs) ys x e = cc
element (suc i) [] ys x e = cc
element (suc i) (y ∷ xs) ys x e = element i xs ys x e

module _ {X : Type 0} {items : Items X} {size : ℕ} {items_in : List ℕ → List X} (lent : AreLent items size items_in) where
  length_up_to : (most : ℕ) (bytes : List ℕ) → length bytes ≤ most → length (items_in bytes) ≡ length bytes / size
  length_up_to zero bytes l =
      let short : length bytes < size = omega (arith, lent.some) in
      ap length (lent.none bytes short) ∙ sym (div-eq_of_lt short)
  length_up_to (suc most) bytes l = elim (cases_lt (length bytes) size) [
    | inl short ↦ ap length (lent.none bytes short) ∙ sym (div-eq_of_lt short)
    | inr enough ↦
        let fewer : length (drop size bytes) ≡ length bytes - size = length-drop size bytes in
        let rest : length (items_in (drop size bytes)) ≡ length (drop size bytes) / size = length_up_to most (drop size bytes) (omega (arith, fewer, lent.some)) in
        let more : length bytes / size ≡ (length bytes - size) / size + 1 = div-eq-sub-div lent.some enough in
        let all : length (items_in bytes) ≡ suc (length (items_in (drop size bytes))) = ap length (lent.first bytes enough).1 in
        all ∙ ap suc (rest ∙ ap (λ n. n / size) fewer) ∙ omega (arith, more)
  ]

  -- how many items there are
  pub lent_length : (bytes : List ℕ) → length (items_in bytes) ≡ length bytes / size
  lent_length bytes = length_up_to (length bytes) bytes (omega arith)

  -- so many items further on stand the others
  lent_from : (i : ℕ) (bytes : List ℕ) → items_in (drop (size * i) bytes) ≡ drop i (items_in bytes)
  lent_from zero bytes = let none : size * 0 ≡ 0 = omega arith in ap (λ n. items_in (drop n bytes)) none
  lent_from (suc i) bytes = elim (cases_lt (length bytes) size) [
    | inl short ↦
        let few : length (drop (size * suc i) bytes) < size = omega (arith, length-drop (size * suc i) bytes) in
        lent.none (drop (size * suc i) bytes) few ∙ sym (ap (drop (suc i)) (lent.none bytes short))
    | inr enough ↦
        let further : size * suc i ≡ size + size * i = omega arith in
        ap (λ n. items_in (drop n bytes)) further ∙ ap items_in (sym (drop-drop (size * i) size bytes)) ∙ lent_from i (drop size bytes)
        ∙ sym (ap (drop (suc i)) (lent.first bytes enough).1)
  ]

  pub lent_element : (i : ℕ) (bytes : List ℕ) (x : X) (rest : List X) → items_in (drop (size * i) bytes) ≡ x ∷ rest → slice_get (items_in bytes) i ≡ Some x
  lent_element i bytes x rest e = element i (items_in bytes) rest x (sym (lent_from i bytes) ∙ e)

  lent_run : (least n : ℕ) (xs : List X) → IsRun items least n xs → items_in (flat_map items.bytes xs) ≡ xs
  lent_run least zero [] run = lent.none [] lent.some
  lent_run least zero (x ∷ xs) run = absurd run
  lent_run least (suc n) [] run = absurd run
  lent_run least (suc n) (x ∷ xs) run = lent.back least n x (flat_map items.bytes xs) run.0 ∙ ap (λ ys. x ∷ ys) (lent_run (items.least_after x) n xs run.1)

  -- items that stand in the bytes are those that the bytes lend there
  pub lent_stand : (count : ℕ) (xs : List X) (bytes : List ℕ) (at to : ℕ) → Stands (run_part items 0 count) xs bytes at to →
      Stands (run_part items 0 count) (items_in (slice_range bytes at to)) bytes at to
  lent_stand count xs bytes at to s =
      let spelled : slice_range bytes at to ≡ flat_map items.bytes xs =
      ap (take (to - at)) s.is ∙ take_at (flat_map items.bytes xs) (drop to bytes) (to - at) (omega (arith, s.end)) in
      let same : items_in (slice_range bytes at to) ≡ xs = ap items_in spelled ∙ lent_run 0 count xs s.good in
      subst (λ (ys : List X). Stands (run_part items 0 count) ys bytes at to) (sym same) s

-- ---- keys

keys_none : (bytes : List ℕ) → length bytes < 2 → keys_in bytes ≡ []
keys_none [] l = refl
keys_none (high ∷ []) l = refl
keys_none (high ∷ (low ∷ rest)) l = absurd (omega arith)

pub keys_first : (bytes : List ℕ) → 2 ≤ length bytes → keys_in bytes ≡ from_be_bytes w16 (get_or bytes 0 0 ∷ get_or bytes 1 0 ∷ []) ∷ keys_in (drop 2 bytes)
keys_first [] l = absurd (omega arith)
keys_first (high ∷ []) l = absurd (omega arith)
keys_first (high ∷ (low ∷ rest)) l = refl

pub keys_lent : AreLent key_items 2 keys_in
keys_lent = record {
  some = omega arith;
  none = keys_none;
  first = λ bytes l. (from_be_bytes w16 (get_or bytes 0 0 ∷ get_or bytes 1 0 ∷ []), keys_first bytes l);
  back = λ least left key rest good. ap (λ k. k ∷ keys_in rest) (from_be_bytes-to_be_bytes_2 key (omega (arith, good.1)));
}

pub keys_length : (bytes : List ℕ) → length (keys_in bytes) ≡ length bytes / 2
keys_length bytes = lent_length keys_lent bytes

pub keys_element : (i : ℕ) (bytes : List ℕ) (key : ℕ) (rest : List ℕ) → keys_in (drop (2 * i) bytes) ≡ key ∷ rest → slice_get (keys_in bytes) i ≡ Some key
keys_element i bytes key rest e = lent_element keys_lent i bytes key rest e

-- ---- places with their clocks

named_none : (bytes : List ℕ) → length bytes < 5 → named_in bytes ≡ []
named_none [] l = refl
named_none (p ∷ []) l = refl
named_none (p ∷ (a ∷ [])) l = refl
named_none (p ∷ (a ∷ (b ∷ []))) l = refl
named_none (p ∷ (a ∷ (b ∷ (c ∷ [])))) l = refl
named_none (p ∷ (a ∷ (b ∷ (c ∷ (d ∷ rest))))) l = absurd (omega arith)

pub named_first : (bytes : List ℕ) → 5 ≤ length bytes →
    named_in bytes ≡ named_by (get_or bytes 0 0) (get_or bytes 1 0 ∷ get_or bytes 2 0 ∷ get_or bytes 3 0 ∷ get_or bytes 4 0 ∷ []) ∷ named_in (drop 5 bytes)
named_first [] l = absurd (omega arith)
named_first (p ∷ []) l = absurd (omega arith)
named_first (p ∷ (a ∷ [])) l = absurd (omega arith)
named_first (p ∷ (a ∷ (b ∷ []))) l = absurd (omega arith)
named_first (p ∷ (a ∷ (b ∷ (c ∷ [])))) l = absurd (omega arith)
named_first (p ∷ (a ∷ (b ∷ (c ∷ (d ∷ rest))))) l = refl

pub named_lent : AreLent place_items 5 named_in
named_lent = record {
  some = omega arith;
  none = named_none;
  first = λ bytes l. (named_by (get_or bytes 0 0) (get_or bytes 1 0 ∷ get_or bytes 2 0 ∷ get_or bytes 3 0 ∷ get_or bytes 4 0 ∷ []), named_first bytes l);
  back = λ least left named rest good.
      let clock = from_be_bytes-to_be_bytes_4 named.clock good.1.1 in
      λ i. record { place = named.place; clock = clock i } ∷ named_in rest;
}

pub named_length : (bytes : List ℕ) → length (named_in bytes) ≡ length bytes / 5
named_length bytes = lent_length named_lent bytes

pub named_element : (i : ℕ) (bytes : List ℕ) (named : PlaceClock) (rest : List PlaceClock) → named_in (drop (5 * i) bytes) ≡ named ∷ rest → slice_get (named_in bytes) i ≡ Some named
named_element i bytes named rest e = lent_element named_lent i bytes named rest e
