-- Lists of keys that rise.
use Rattle.std.proofs.Common.{◌≡◌, ℕ, zero, suc, ◌<◌, ◌≤◌, List, [], ◌∷◌, ◌++◌, ◌+◌, length, take, drop, get_or, Option, Some, None, MatchOption, All, refl, subst, ap₂, inl, inr, arith}
use Rattle.std.proofs.lemmas.List.Elements.{All-nil, All-cons, All-head, All-tail}
use Rattle.std.proofs.lemmas.List.{drop_more}
use Rattle.propagation.specs.Lists.{Has}
use Rattle.propagation.specs.Stamps.{Rise}

-- each is at least the least
pub rise-least : (a : ℕ) (xs : List ℕ) (q : ℕ) → Rise a xs → Has xs q → a ≤ q
rise-least a [] q r h = absurd h
rise-least a (x ∷ xs) q r (inl e) = let le : a ≤ x = r.0 in omega arith
rise-least a (x ∷ xs) q r (inr h) = let le : a ≤ x = r.0 in let more : suc x ≤ q = rise-least (suc x) xs q r.1 h in omega arith

-- two rising lists with the same members are the same
pub rise-same : (a b : ℕ) (xs ys : List ℕ) → Rise a xs → Rise b ys → ((q : ℕ) → Has xs q → Has ys q) → ((q : ℕ) → Has ys q → Has xs q) → xs ≡ ys
rise-same a b [] [] r s f g = refl
rise-same a b [] (y ∷ ys) r s f g = absurd (g y (inl refl))
rise-same a b (x ∷ xs) [] r s f g = absurd (f x (inl refl))
rise-same a b (x ∷ xs) (y ∷ ys) r s f g =
    let ge : y ≤ x = rise-least y (y ∷ ys) x (omega arith, s.1) (f x (inl refl)) in
    let le : x ≤ y = rise-least x (x ∷ xs) y (omega arith, r.1) (g y (inl refl)) in
    let same : x ≡ y = omega arith in
    ap₂ (λ (z : ℕ) (zs : List ℕ). z ∷ zs) same
    (rise-same (suc x) (suc y) xs ys r.1 s.1
    (λ q h. elim (f q (inr h)) [ inl e ↦ absurd (let more : suc x ≤ q = rise-least (suc x) xs q r.1 h in omega arith) | inr k ↦ k ])
    (λ q h. elim (g q (inr h)) [ inl e ↦ absurd (let more : suc y ≤ q = rise-least (suc y) ys q s.1 h in omega arith) | inr k ↦ k ]))

-- one greater key at the end
pub rise-append : (a : ℕ) (xs : List ℕ) (k : ℕ) → Rise a xs → a ≤ k → ((q : ℕ) → Has xs q → q < k) → Rise a (xs ++ k ∷ [])
rise-append a [] k r le above = (le, tt)
rise-append a (x ∷ xs) k r le above = (r.0, rise-append (suc x) xs k r.1 (above x (inl refl)) (λ q h. above q (inr h)))

-- what stands at a place is there
pub has-get : (xs : List ℕ) (i d : ℕ) → i < length xs → Has xs (get_or xs i d)
has-get [] i d lt = absurd (omega arith)
has-get (x ∷ xs) zero d lt = inl refl
has-get (x ∷ xs) (suc i) d lt = inr (has-get xs i d (omega arith))

-- those before a place are below what stands there
pub rise-before : (a : ℕ) (xs : List ℕ) (i d q : ℕ) → Rise a xs → i < length xs → Has (take i xs) q → q < get_or xs i d
rise-before a [] i d q r lt h = absurd (omega arith)
rise-before a (x ∷ xs) zero d q r lt h = absurd h
rise-before a (x ∷ xs) (suc i) d q r lt (inl e) =
    let more : suc x ≤ get_or xs i d = rise-least (suc x) xs (get_or xs i d) r.1 (has-get xs i d (omega arith)) in omega arith
rise-before a (x ∷ xs) (suc i) d q r lt (inr h) = rise-before (suc x) xs i d q r.1 (omega arith) h

-- a rising list whose members are at least m rises from m on
pub rise-from : (a m : ℕ) (xs : List ℕ) → Rise a xs → ((q : ℕ) → Has xs q → m ≤ q) → Rise m xs
rise-from a m [] r least = tt
rise-from a m (x ∷ xs) r least = (least x (inl refl), r.1)

module _ {A : Type 0} (P : A → Type 0) where
  pub all-has : (xs : List A) → ((x : A) → Has xs x → P x) → All P xs
  all-has [] f = All-nil P
  all-has (x ∷ xs) f = All-cons P x xs (f x (inl refl)) (all-has xs (λ y h. f y (inr h)))

  pub has-all : (xs : List A) → All P xs → (x : A) → Has xs x → P x
  has-all [] all x h = absurd h
  has-all (y ∷ xs) all x (inl e) = subst P e (All-head P y xs all)
  has-all (y ∷ xs) all x (inr h) = has-all xs (All-tail P y xs all) x h

-- a step of an iterator over the keys from a place on
pub next-drop : (ks xs ys : List ℕ) (r : Option ℕ) (i : ℕ) → i < length ks → xs ≡ drop i ks → MatchOption r ((xs ≡ []) × (ys ≡ [])) (λ x. xs ≡ x ∷ ys) → (r ≡ Some (get_or ks i 0)) × (ys ≡ drop (i + 1) ks)
next-drop ks xs ys None i lt at (e, f) = absurd (let first : drop i ks ≡ get_or ks i 0 ∷ drop (i + 1) ks = drop_more ks i 0 lt in cc)
next-drop ks xs ys (Some x) i lt at e = let first : drop i ks ≡ get_or ks i 0 ∷ drop (i + 1) ks = drop_more ks i 0 lt in let same : x ∷ ys ≡ get_or ks i 0 ∷ drop (i + 1) ks = cc in (cc, cc)
