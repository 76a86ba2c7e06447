-- Each generated service is found by its name.
use Rattle.std.proofs.Common.{◌≡◌, ℕ, zero, suc, ◌+◌, ◌-◌, ◌<◌, ◌≤◌, Bool, true, false, not, cond, List, [], ◌∷◌, length, get_or, Some, None, refl, ap, sym, ◌∙◌, inl, inr, arith}
use Rattle.std.specs.Prelude.{◌==◌, nat_lt}
use Rattle.std.specs.List.{prefix_len, position_or_len}
use Rattle.std.specs.Str.{bytes_eq}
use Rattle.std.proofs.lemmas.Bool.{lt-ltb, cases_Bool}
use Rattle.std.proofs.lemmas.Bool.Decides.{nat_tests}
use Rattle.std.proofs.lemmas.Fmt.{decimal_injective}
use Rattle.std.proofs.lemmas.List.{length-map}
use Rattle.std.proofs.lemmas.Slice.Eq.{bytes_eq-Decides}
use Rattle.std.proofs.Math.ListN.{get_or-map}
use Rattle.svc_value.specs.declared.value.ValueType.TheVariants.{Int}
use Rattle.svc_graph.specs.History.{Row, row_at, declared_row, names_in, find_service}
use Rattle.document_generator.specs.Generator.{number_text, input_name, derived_name, service_name}

-- ---- names differ

texts_differ : (a b : ℕ) → a < 1000 → b < 1000 → number_text a ≡ number_text b → a ≡ b
unfolding number_text
texts_differ a b ha hb h = decimal_injective a b (omega arith) (omega arith) h

letters_differ : (xs ys : List ℕ) → 105 ∷ xs ≡ 100 ∷ ys → ⊥
letters_differ xs ys h = let e : true ≡ false = ap (λ (l : List ℕ). get_or l 0 0 == 105) h in cc

rest_of : List ℕ → List ℕ
rest_of [] = []
rest_of (x ∷ xs) = xs

rests_are : (x : ℕ) (xs ys : List ℕ) → x ∷ xs ≡ x ∷ ys → xs ≡ ys
unfolding rest_of
rests_are x xs ys h = ap rest_of h

pub one_name : (inputs i k : ℕ) → i < 999 → k < 999 → service_name inputs i ≡ service_name inputs k → i ≡ k
one_name inputs i k hi hk = by (nat_lt i inputs) (nat_lt k inputs) refl refl
  where
    by : (a b : Bool) → nat_lt i inputs ≡ a → nat_lt k inputs ≡ b
        → cond a (input_name (i + 1)) (derived_name (i + 1 - inputs)) ≡ cond b (input_name (k + 1)) (derived_name (k + 1 - inputs)) → i ≡ k
    by true true ea eb h =
        let e = texts_differ (i + 1) (k + 1) (omega arith) (omega arith) (rests_are 105 (number_text (i + 1)) (number_text (k + 1)) h) in omega arith
    by true false ea eb h = absurd (letters_differ _ _ h)
    by false true ea eb h = absurd (letters_differ _ _ (sym h))
    by false false ea eb h =
        let e = texts_differ (i + 1 - inputs) (k + 1 - inputs) (omega arith) (omega arith) (rests_are 100 (number_text (i + 1 - inputs)) (number_text (k + 1 - inputs)) h) in
        let a : inputs ≤ i = grind (arith, nat_tests) in
        let b : inputs ≤ k = grind (arith, nat_tests) in
        omega arith

-- ---- places

first_place : (p : List ℕ → Bool) (xs : List (List ℕ)) (i : ℕ) → i < length xs → p (get_or xs i []) ≡ true
    → ((m : ℕ) → m < i → p (get_or xs m []) ≡ false) → position_or_len p xs ≡ i
first_place p [] i h t f = absurd (omega arith)
first_place p (x ∷ xs) zero h t f = ap (λ (b : Bool). cond (not b) (1 + prefix_len (λ y. not (p y)) xs) 0) t
first_place p (x ∷ xs) (suc i) h t f =
    ap (λ (b : Bool). cond (not b) (1 + prefix_len (λ y. not (p y)) xs) 0) (f 0 (omega arith))
    ∙ ap (λ (n : ℕ). 1 + n) (first_place p xs i (omega arith) t (λ m hm. f (suc m) (omega arith)))
    ∙ omega arith

no_place : (p : List ℕ → Bool) (xs : List (List ℕ)) → ((m : ℕ) → m < length xs → p (get_or xs m []) ≡ false) → position_or_len p xs ≡ length xs
no_place p [] f = refl
no_place p (x ∷ xs) f =
    ap (λ (b : Bool). cond (not b) (1 + prefix_len (λ y. not (p y)) xs) 0) (f 0 (omega arith))
    ∙ ap (λ (n : ℕ). 1 + n) (no_place p xs (λ m hm. f (suc m) (omega arith)))
    ∙ omega arith

-- each row has the name of its place
abbrev pub AreNamed : ℕ → List Row → Type 0
AreNamed inputs rows = (k : ℕ) → k < length rows → (row_at rows k).name ≡ service_name inputs k

names_are : (inputs : ℕ) (rows : List Row) → AreNamed inputs rows → (k : ℕ) → k < length rows → get_or (names_in rows) k [] ≡ service_name inputs k
names_are inputs rows named k h = get_or-map (λ (row : Row). row.name) rows k (declared_row [] 0 Int) ∙ named k h

same_name : (inputs k : ℕ) (name : List ℕ) → name ≡ service_name inputs k → bytes_eq (service_name inputs k) name ≡ true
same_name inputs k name h = (bytes_eq-Decides (service_name inputs k) name).1 (sym h)

other_name : (inputs i k : ℕ) (name : List ℕ) → i < 999 → k < 999 → (k ≡ i → ⊥) → name ≡ service_name inputs i → bytes_eq (service_name inputs k) name ≡ false
other_name inputs i k name hi hk apart h =
    elim (cases_Bool (bytes_eq (service_name inputs k) name)) [
      | inl t ↦ absurd (apart (one_name inputs k i hk hi ((bytes_eq-Decides (service_name inputs k) name).0 t ∙ h)))
      | inr f ↦ f
    ]

pub place_is : (inputs : ℕ) (rows : List Row) (k : ℕ) → AreNamed inputs rows → length rows ≤ 64 → k < length rows → find_service rows (service_name inputs k) ≡ Some k
place_is inputs rows k named few h =
    let count : length (names_in rows) ≡ length rows = length-map rows (λ (row : Row). row.name) in
    let at : position_or_len (bytes_eq (service_name inputs k)) (names_in rows) ≡ k =
    first_place (bytes_eq (service_name inputs k)) (names_in rows) k (omega arith) (same_name inputs k _ (names_are inputs rows named k h))
    (λ m hm. other_name inputs m k _ (omega arith) (omega arith) (λ e. omega arith) (names_are inputs rows named m (omega arith))) in
    ap (λ (n : ℕ). cond (nat_lt n (length (names_in rows))) (Some n) None) at
    ∙ ap (λ (b : Bool). cond b (Some k) None) (lt-ltb k (length (names_in rows)) (omega arith))

pub place_none : (inputs : ℕ) (rows : List Row) (k : ℕ) → AreNamed inputs rows → length rows ≤ k → k < 999 → find_service rows (service_name inputs k) ≡ None
place_none inputs rows k named h small =
    let count : length (names_in rows) ≡ length rows = length-map rows (λ (row : Row). row.name) in
    let at : position_or_len (bytes_eq (service_name inputs k)) (names_in rows) ≡ length (names_in rows) =
    no_place (bytes_eq (service_name inputs k)) (names_in rows)
    (λ m hm. other_name inputs m k _ (omega arith) (omega arith) (λ e. omega arith) (names_are inputs rows named m (omega arith))) in
    let past : nat_lt (length (names_in rows)) (length (names_in rows)) ≡ false = grind (arith, nat_tests) in
    ap (λ (n : ℕ). cond (nat_lt n (length (names_in rows))) (Some n) None) at
    ∙ ap (λ (b : Bool). cond b (Some (length (names_in rows))) None) past
