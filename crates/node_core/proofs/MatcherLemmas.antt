-- A matcher rests on the stamps of the heads alone.
use Rattle.std.proofs.Common.{◌≡◌, ℕ, zero, suc, ◌<◌, ◌≤◌, ◌-◌, ◌^◌, ◌==◌, Bool, true, false, cond, List, [], ◌∷◌, ◌++◌, length, take, slice_set, slice_index_or, min, Option, Some, None, option_map, refl, sym, ap, subst, ◌∙◌, arith}
use Rattle.std.proofs.lemmas.List.{length-set}
use Rattle.propagation.specs.Logs.{Emission}
use Rattle.propagation.specs.Stamps.{Stamps}
use Rattle.pred_queue.specs.Capped.{capped, capped_head}
use Rattle.service_machine.specs.States.{Head, Slot, slot_at, with_slot, number_at_head, has_next, front_is, advanced, advance_with}
use Rattle.service_machine.specs.Openings.{first_head, first_slots}
use Rattle.stamp_match.specs.Kept.{head_stamps, IsKept, IsMatcherOf}
use Rattle.stamp_match.specs.declared.matcher.Matcher.{Matcher}

-- heads with the number 0
pub begun_stamps : {V : Type 0} (n : ℕ) (slots : List (Slot V)) → head_stamps (take n (first_slots slots)) ≡ head_stamps (take n slots)
begun_stamps zero slots = refl
begun_stamps (suc n) [] = refl
begun_stamps {V} (suc n) (x ∷ rest) = (λ i. go x.head i ∷ begun_stamps n rest i)
  where
    go : (h : Option (Head V)) → option_map (λ head. head.emission.stamps) (first_head h) ≡ option_map (λ head. head.emission.stamps) h
    go None = refl
    go (Some h) = refl

-- another slot of a sender with the same head
pub received_stamps : {V : Type 0} (n : ℕ) (slots : List (Slot V)) (new : Slot V) → n ≤ length slots → new.head ≡ (slot_at slots new.sender).head → head_stamps (take n (with_slot new slots)) ≡ head_stamps (take n slots)
received_stamps zero slots new le same = refl
received_stamps (suc n) [] new le same = absurd (omega (arith, le))
received_stamps {V} (suc n) (x ∷ rest) new le same = go (x.sender == new.sender) same (received_stamps n rest new (omega (arith, le)))
  where
    go : (b : Bool) → new.head ≡ (cond b x (slot_at rest new.sender)).head → (new.head ≡ (slot_at rest new.sender).head → head_stamps (take n (with_slot new rest)) ≡ head_stamps (take n rest)) →
        head_stamps (take (suc n) (cond b (new ∷ rest) (x ∷ with_slot new rest))) ≡ head_stamps (take (suc n) (x ∷ rest))
    go true e rec = (λ i. option_map (λ head. head.emission.stamps) (e i) ∷ head_stamps (take n rest))
    go false e rec = (λ i. option_map (λ head. head.emission.stamps) x.head ∷ rec e i)

-- a number of 64 bits is as it is
pub uncapped : {V : Type 0} (s : Slot V) → number_at_head s.head ≤ 2 ^ 64 - 1 → capped s ≡ s
uncapped {V} s le = (λ i. record s { head = go s.head le i })
  where
    least : (k m : ℕ) → k ≤ m → min k m ≡ k
    least k m le = omega (arith, le)

    go : (h : Option (Head V)) → number_at_head h ≤ 2 ^ 64 - 1 → capped_head h ≡ h
    go None le = refl
    go (Some h) le = (λ i. Some (record h { number = least h.number (2 ^ 64 - 1) le i }))

-- ---- the matcher of the first slots

pub matched_begun : {V : Type 0} (n : ℕ) (slots new : List (Slot V)) (floor : Stamps) (matcher : Matcher) → new ≡ first_slots slots → IsMatcherOf (take n slots) floor matcher → IsMatcherOf (take n new) floor matcher
matched_begun {V} n slots new floor matcher is was =
    let P : List (Slot V) → Type 0 = λ xs. IsMatcherOf (take n xs) floor matcher in
    let Q : List (Option Stamps) → Type 0 = λ heads. IsKept heads floor matcher in
    subst P (sym is) (subst Q (sym (begun_stamps n slots)) was)

pub matched_received : {V : Type 0} (n : ℕ) (slots new : List (Slot V)) (p : ℕ) (one : Slot V) (floor : Stamps) (matcher : Matcher) → n ≤ length slots → new ≡ with_slot one slots → one.sender ≡ p → one.head ≡ (slot_at slots p).head →
    IsMatcherOf (take n slots) floor matcher → IsMatcherOf (take n new) floor matcher
matched_received {V} n slots new p one floor matcher le is own same was =
    let P : List (Slot V) → Type 0 = λ xs. IsMatcherOf (take n xs) floor matcher in
    let Q : List (Option Stamps) → Type 0 = λ heads. IsKept heads floor matcher in
    subst P (sym is) (subst Q (sym (received_stamps n slots one le (same ∙ ap (λ q. (slot_at slots q).head) (sym own)))) was)

-- ---- the slot that moves on

-- what stands at a place does not depend on what stands at others
pub at_any : {V : Type 0} (slots : List (Slot V)) (i : ℕ) (d e : Slot V) → i < length slots → slice_index_or slots i d ≡ slice_index_or slots i e
at_any [] i d e lt = absurd (omega (arith, lt))
at_any (x ∷ rest) zero d e lt = refl
at_any (x ∷ rest) (suc i) d e lt = at_any rest i d e (omega (arith, lt))

-- its number is as it is
pub uncapped_next : {V : Type 0} (s : Slot V) → has_next s ≡ true → number_at_head s.head < 2 ^ 64 - 1 → capped (advanced s) ≡ advanced s
uncapped_next {V} s next lt = go s.queue next
  where
    go : (q : List (ℕ × Emission V)) → front_is s.edge q ≡ true → capped (advance_with s q) ≡ advance_with s q
    go [] h = absurd (cc h)
    go (x ∷ q) h = uncapped (advance_with s (x ∷ q)) (omega (arith, lt))

-- ---- a list that is written back

-- it is as long as before
pub as_written : {V : Type 0} (slots made rest : List (Slot V)) (len i : ℕ) (new : Slot V) → made ≡ slice_set slots i new → length slots ≡ len → take len (made ++ rest) ≡ slice_set slots i new
as_written {V} slots made rest len i new is same = exact len made (ap (λ (xs : List (Slot V)). length xs) is ∙ length-set slots i new ∙ same) ∙ is
  where
    exact : (n : ℕ) (xs : List (Slot V)) → length xs ≡ n → take n (xs ++ rest) ≡ xs
    exact zero [] e = refl
    exact zero (x ∷ xs) e = absurd (omega (arith, e))
    exact (suc n) [] e = absurd (omega (arith, e))
    exact (suc n) (x ∷ xs) e = ap (λ zs. x ∷ zs) (exact n xs (omega (arith, e)))
