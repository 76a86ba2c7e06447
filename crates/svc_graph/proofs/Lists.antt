-- Small facts on lists and tests.
use Rattle.propagation.specs.Lists.{Has, is_among}
use Rattle.std.proofs.lemmas.List.FromFn.{map-range_with_len_more}
use Rattle.std.specs.List.{list_any, range_with_len}
use Rattle.std.specs.Prelude.{Result, Ok, Err, OnErr}
use Rattle.std.proofs.Common.{◌≡◌, ℕ, zero, suc, ◌<◌, Bool, true, false, ◌&&◌, ◌||◌, ◌==◌, if◌then◌else◌, List, [], ◌∷◌, ◌++◌, length, slice_get, Some, refl, arith, ◌+◌, map, zero-add, sym, ap, ◌∙◌, get_or, inl, inr}

-- both tests hold where their conjunction does
pub and_left : (a b : Bool) → (a && b) ≡ true → a ≡ true
and_left true b h = refl
and_left false b h = h

pub and_right : (a b : Bool) → (a && b) ≡ true → b ≡ true
and_right true b h = h
and_right false b h = absurd (false_is_true h)
  where
    false_is_true : false ≡ true → ⊥
    false_is_true e = cc

-- an element of the first list is one of both
pub slice_get-append : {A : Type 0} (xs ys : List A) (i : ℕ) → i < length xs → slice_get (xs ++ ys) i ≡ slice_get xs i
slice_get-append [] ys i h = absurd (omega arith)
slice_get-append (x ∷ xs) ys zero h = refl
slice_get-append (x ∷ xs) ys (suc i) h = slice_get-append xs ys i (omega arith)

-- the last element
pub slice_get-push : {A : Type 0} (xs : List A) (y : A) → slice_get (xs ++ y ∷ []) (length xs) ≡ Some y
slice_get-push [] y = refl
slice_get-push (x ∷ xs) y = slice_get-push xs y

-- what holds anyway holds of an error
pub on_err : {T E P : Type 0} (r : Result T E) → P → OnErr r P
on_err (Ok x) p = tt
on_err (Err e) p = p

-- a number is in a list where some number there is it
pub is_among-list_any : (ps : List ℕ) (q : ℕ) → is_among ps q ≡ list_any (λ p. p == q) ps
is_among-list_any [] q = refl
is_among-list_any (p ∷ ps) q = by (p == q) (is_among-list_any ps q)
  where
    by : (b : Bool) → is_among ps q ≡ list_any (λ p'. p' == q) ps → (if b then true else is_among ps q) ≡ (b || list_any (λ p'. p' == q) ps)
    by true h = refl
    by false h = h

-- a number is in two lists one after another where it is in one of them
pub is_among_append : (ps qs : List ℕ) (q : ℕ) → is_among (ps ++ qs) q ≡ (is_among ps q || is_among qs q)
is_among_append [] qs q = refl
is_among_append (p ∷ ps) qs q = by (p == q) (is_among_append ps qs q)
  where
    by : (b : Bool) → is_among (ps ++ qs) q ≡ (is_among ps q || is_among qs q) → (if b then true else is_among (ps ++ qs) q) ≡ ((if b then true else is_among ps q) || is_among qs q)
    by true h = refl
    by false h = h

-- one number more
pub range_with_len-more : (n : ℕ) → range_with_len 0 (n + 1) ≡ range_with_len 0 n ++ n ∷ []
range_with_len-more n =
    sym (map-same (range_with_len 0 (n + 1))) ∙ map-range_with_len_more (λ k. k) 0 n n (zero-add n) ∙ (λ i. map-same (range_with_len 0 n) i ++ n ∷ [])
  where
    map-same : (xs : List ℕ) → map (λ k. k) xs ≡ xs
    map-same [] = refl
    map-same (x ∷ xs) = ap (λ ys. x ∷ ys) (map-same xs)

-- an element of a list is there
pub get_or-Has : {A : Type 0} (xs : List A) (k : ℕ) (d : A) → k < length xs → Has xs (get_or xs k d)
get_or-Has [] k d within = absurd (omega arith)
get_or-Has (x ∷ xs) zero d within = inl refl
get_or-Has (x ∷ xs) (suc k) d within = inr (get_or-Has xs k d (omega arith))
