-- Lists of services with their clocks.
use Rattle.std.proofs.Common.{◌≡◌, ℕ, zero, suc, ◌<◌, ◌==◌, Bool, true, false, cond, List, [], ◌∷◌, ◌++◌, length, take, drop, slice_index_or, slice_set, unwrap_or, Some, refl, sym, ap, ◌∙◌, arith, append_assoc}
use Rattle.std.proofs.lemmas.Bool.{cond-true, cond-false}
use Rattle.propagation.specs.Stamps.{clock_of}
use Rattle.service_machine.specs.States.{epoch_in, edges_to, with_clock}

-- the last epoch, or 0
pub clock_or_zero : (xs : List (ℕ × ℕ)) (q : ℕ) → unwrap_or (epoch_in xs q) 0 ≡ clock_of xs q
clock_or_zero [] q = refl
clock_or_zero (x ∷ rest) q = go (x.0 == q) (clock_or_zero rest q)
  where
    go : (b : Bool) → unwrap_or (epoch_in rest q) 0 ≡ clock_of rest q → unwrap_or (cond b (Some x.1) (epoch_in rest q)) 0 ≡ cond b x.1 (clock_of rest q)
    go true h = refl
    go false h = h

-- one edge more
pub edges_next : (before : List (ℕ × ℕ)) (c : ℕ) (made : List (ℕ × ℕ)) (ps : List ℕ) (i p : ℕ) → i < length ps → p ≡ slice_index_or ps i p →
    (made ++ (p, unwrap_or (epoch_in before p) c) ∷ []) ++ edges_to before c (drop (suc i) ps) ≡ made ++ edges_to before c (drop i ps)
edges_next before c made [] i p lt is = absurd (omega arith)
edges_next before c made (q ∷ rest) zero p lt is =
    append_assoc made ((p, unwrap_or (epoch_in before p) c) ∷ []) (edges_to before c rest) ∙ ap (λ k. made ++ (k, unwrap_or (epoch_in before k) c) ∷ edges_to before c rest) is
edges_next before c made (q ∷ rest) (suc i) p lt is = edges_next before c made rest i p (omega arith) is

-- a pair of another service is passed
pub passed : (q e : ℕ) (xs : List (ℕ × ℕ)) (i : ℕ) (x : ℕ × ℕ) → i < length xs → x ≡ slice_index_or xs i x → (x.0 == q) ≡ false →
    take (suc i) xs ++ with_clock q e (drop (suc i) xs) ≡ take i xs ++ with_clock q e (drop i xs)
passed q e [] i x lt is other = absurd (omega arith)
passed q e (y ∷ rest) zero x lt is other =
    sym (cond-false (y.0 == q) ((q, e) ∷ rest) (y ∷ with_clock q e rest) (ap (λ (z : ℕ × ℕ). z.0 == q) (sym is) ∙ other))
passed q e (y ∷ rest) (suc i) x lt is other = ap (λ zs. y ∷ zs) (passed q e rest i x (omega arith) is other)

-- the first pair of the service is replaced
pub replaced : (q e : ℕ) (xs : List (ℕ × ℕ)) (i : ℕ) (x : ℕ × ℕ) → i < length xs → x ≡ slice_index_or xs i x → (x.0 == q) ≡ true →
    slice_set xs i (q, e) ≡ take i xs ++ with_clock q e (drop i xs)
replaced q e [] i x lt is same = absurd (omega arith)
replaced q e (y ∷ rest) zero x lt is same =
    sym (cond-true (y.0 == q) ((q, e) ∷ rest) (y ∷ with_clock q e rest) (ap (λ (z : ℕ × ℕ). z.0 == q) (sym is) ∙ same))
replaced q e (y ∷ rest) (suc i) x lt is same = ap (λ zs. y ∷ zs) (replaced q e rest i x (omega arith) is same)

-- behind all others it comes to the end
pub appended : (q e : ℕ) (xs : List (ℕ × ℕ)) (i : ℕ) → length xs ≡ i → xs ++ (q, e) ∷ [] ≡ take i xs ++ with_clock q e (drop i xs)
appended q e [] zero is = refl
appended q e [] (suc i) is = refl
appended q e (y ∷ rest) zero is = absurd (omega (arith, is))
appended q e (y ∷ rest) (suc i) is = ap (λ zs. y ∷ zs) (appended q e rest i (omega (arith, is)))
