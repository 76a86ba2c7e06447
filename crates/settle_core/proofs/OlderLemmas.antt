-- Of lists that stand for one another, a front of the first stands for an older part of the second.
use Rattle.std.proofs.Common.{◌≡◌, ℕ, suc, ◌<◌, ◌≤◌, ◌==◌, List, [], ◌∷◌, ◌++◌, length, Some, refl, sym, ap, ap₂, ◌∙◌, arith, inl, inr, eq-eqb, eqb-true, length-append}
use Rattle.std.proofs.lemmas.Bool.{cond-true, cond-false, cases_Bool, eqb-false}
use Rattle.propagation.specs.Lists.{numbered, IsOlderPart}
use Rattle.service_machine.proofs.Turned.{within}
use Rattle.svc_graph.proofs.Lists.{slice_get-append}
use Rattle.settle_core.proofs.NumberLemmas.{Match}

-- ---- numbers

number_here : {A : Type 0} (y : A) (ys : List A) (k : ℕ) → length ys ≡ k → numbered (y ∷ ys) k ≡ Some y
number_here y ys k same = cond-true (length ys == k) (Some y) (numbered ys k) (eq-eqb (length ys) k same)

number_below : {A : Type 0} (y : A) (ys : List A) (k : ℕ) → k < length ys → numbered (y ∷ ys) k ≡ numbered ys k
number_below y ys k less = elim (cases_Bool (length ys == k)) [
  | inl t ↦ (let same : length ys ≡ k = eqb-true (length ys) k t in absurd (omega (arith, same, less)))
  | inr f ↦ cond-false (length ys == k) (Some y) (numbered ys k) f
]

same_numbers : {A : Type 0} (ys zs : List A) → length ys ≡ length zs → ((k : ℕ) → k < length zs → numbered ys k ≡ numbered zs k) → ys ≡ zs
same_numbers [] [] count each = refl
same_numbers [] (z ∷ zs) count each = absurd (omega (arith, count))
same_numbers (y ∷ ys) [] count each = absurd (omega (arith, count))
same_numbers {A} (y ∷ ys) (z ∷ zs) count each =
    let tails : length ys ≡ length zs = omega (arith, count) in
    let first : Some y ≡ Some z = sym (number_here y ys (length zs) tails) ∙ each (length zs) (omega arith) ∙ number_here z zs (length zs) refl in
    let head : y ≡ z = cc first in
    ap₂ (λ (a : A) (rest : List A). a ∷ rest) head
    (same_numbers ys zs tails (λ k less. sym (number_below y ys k (omega (arith, less, tails))) ∙ each k (omega (arith, less)) ∙ number_below z zs k less))

older_by_numbers : {A : Type 0} (ys zs : List A) → length zs ≤ length ys → ((k : ℕ) → k < length zs → numbered ys k ≡ numbered zs k) → IsOlderPart zs ys
older_by_numbers [] [] le each = ([], refl)
older_by_numbers [] (z ∷ zs) le each = absurd (omega (arith, le))
older_by_numbers {A} (y ∷ ys) zs le each = elim (cases_Bool (length zs == suc (length ys))) [
  | inl t ↦ (let same : length zs ≡ suc (length ys) = eqb-true (length zs) (suc (length ys)) t in ([], sym (same_numbers (y ∷ ys) zs (sym same) each)))
  | inr f ↦ (let ne = eqb-false (length zs) (suc (length ys)) f in
      let below : length zs ≤ length ys = omega (arith, le, ne) in
      let w = older_by_numbers ys zs below (λ k less. sym (number_below y ys k (omega (arith, less, below))) ∙ each k less) in
      (y ∷ w.0, ap (λ (rest : List A). y ∷ rest) w.1))
]

-- ---- matches

pub match_older : {A B : Type 0} (R : A → B → Type 0) (one : (x : A) (y z : B) → R x y → R x z → y ≡ z) (xs more : List A) (ys zs : List B) → Match R (xs ++ more) ys → Match R xs zs → IsOlderPart zs ys
match_older {A} {B} R one xs more ys zs all front = older_by_numbers ys zs (omega (arith, all.count, front.count, length-append xs more)) (λ k less.
    let inside : k < length xs = omega (arith, less, front.count) in
    let x = within xs k inside in
    let y = all.each k x.0 (slice_get-append xs more k inside ∙ x.1) in
    let z = front.each k x.0 x.1 in
    y.1 ∙ ap (λ (b : B). Some b) (one x.0 y.0 z.0 y.2 z.2) ∙ sym z.1)
