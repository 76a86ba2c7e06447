-- Names, and the numbers of the services that they name.
use Rattle.std.proofs.Common.{◌≡◌, ℕ, ◌<◌, Bool, false, List, [], ◌∷◌, ◌++◌, length, get_or, Option, Some, None, refl, sym, ap, subst, ◌∙◌, inl, inr}
use Rattle.std.specs.Prelude.{map, is_none, unwrap_or, ◌||◌}
use Rattle.std.specs.List.{list_any}
use Rattle.std.specs.Str.{bytes_eq}
use Rattle.std.proofs.lemmas.List.{length-map, get_or-map}
use Rattle.std.proofs.lemmas.List.Quantifiers.{position-Some}
use Rattle.std.proofs.lemmas.Slice.Eq.{bytes_eq-Decides}
use Rattle.propagation.specs.Lists.{AreDistinct, Has}
use Rattle.svc_graph.proofs.AreDistinct.{or_left, or_right}
use Rattle.svc_expr.specs.Names.{Differ}
use Rattle.svc_graph.specs.History.{Row, declared_row, names_in, find_service, row_at}
use Rattle.svc_value.specs.declared.value.ValueType.TheVariants as type
use Rattle.document_reading.specs.Refusals.{is_unknown}
use Rattle.document_reading.specs.State.{service_named}

some_of : {A : Type 0} (o : Option A) → is_none o ≡ false → (x : A) × (o ≡ Some x)
some_of None h = absurd (cc)
some_of (Some x) h = (x, refl)

-- a declared name is that of its row
pub record IsNamedRow (rows : List Row) (name : List ℕ) : Type 0 where
  pub within : service_named rows name < length rows
  pub name_is : name ≡ (row_at rows (service_named rows name)).name

pub named : (rows : List Row) (name : List ℕ) → is_unknown rows name ≡ false → IsNamedRow rows name
named rows name h =
    let found = some_of (find_service rows name) h in
    let at = position-Some (bytes_eq name) (names_in rows) found.0 [] found.1 in
    let number : service_named rows name ≡ found.0 = ap (λ (o : Option ℕ). unwrap_or o 0) found.1 in
    let within : found.0 < length rows = subst (λ (n : ℕ). found.0 < n) (length-map rows (λ row. row.name)) at.0 in
    let same : name ≡ get_or (names_in rows) found.0 [] = (bytes_eq-Decides name (get_or (names_in rows) found.0 [])).0 at.1 in
    let there : get_or (names_in rows) found.0 [] ≡ (row_at rows found.0).name = get_or-map (λ (row : Row). row.name) rows found.0 (declared_row [] 0 type.Int) [] within in
    record {
      within = subst (λ (n : ℕ). n < length rows) (sym number) within;
      name_is = same ∙ there ∙ ap (λ (n : ℕ). (row_at rows n).name) (sym number);
    }

-- two names of one service are one
one_name : (rows : List Row) (a b : List ℕ) → is_unknown rows a ≡ false → is_unknown rows b ≡ false → service_named rows b ≡ service_named rows a → b ≡ a
one_name rows a b h k e = (named rows b k).name_is ∙ ap (λ (n : ℕ). (row_at rows n).name) e ∙ sym (named rows a h).name_is

-- the numbers of declared names
pub numbers_within : (rows : List Row) (names : List (List ℕ)) → list_any (is_unknown rows) names ≡ false → (p : ℕ) → Has (map (service_named rows) names) p → p < length rows
numbers_within rows [] h p has = absurd has
numbers_within rows (name ∷ names) h p (inl same) = subst (λ (n : ℕ). n < length rows) same (named rows name (or_left (is_unknown rows name) (list_any (is_unknown rows) names) h)).within
numbers_within rows (name ∷ names) h p (inr later) = numbers_within rows names (or_right (is_unknown rows name) (list_any (is_unknown rows) names) h) p later

named_among : (rows : List Row) (name : List ℕ) (names : List (List ℕ)) → is_unknown rows name ≡ false → list_any (is_unknown rows) names ≡ false
    → Has (map (service_named rows) names) (service_named rows name) → Has names name
named_among rows name [] h k has = absurd has
named_among rows name (other ∷ names) h k (inl same) = inl (one_name rows name other h (or_left (is_unknown rows other) (list_any (is_unknown rows) names) k) same)
named_among rows name (other ∷ names) h k (inr later) = inr (named_among rows name names h (or_right (is_unknown rows other) (list_any (is_unknown rows) names) k) later)

-- different declared names have different numbers
pub apart_numbers : (rows : List Row) (names : List (List ℕ)) → list_any (is_unknown rows) names ≡ false → Differ names → AreDistinct (map (service_named rows) names)
apart_numbers rows [] h d = tt
apart_numbers rows (name ∷ names) h d =
    let first = or_left (is_unknown rows name) (list_any (is_unknown rows) names) h in
    let rest = or_right (is_unknown rows name) (list_any (is_unknown rows) names) h in
    ((λ has. d.0 (named_among rows name names first rest has)), apart_numbers rows names rest d.1)

pub any-append : {A : Type 0} (test : A → Bool) (xs ys : List A) → list_any test (xs ++ ys) ≡ false → (list_any test xs ≡ false) × (list_any test ys ≡ false)
any-append test [] ys h = (refl, h)
any-append test (x ∷ xs) ys h =
    let rest = any-append test xs ys (or_right (test x) (list_any test (xs ++ ys)) h) in
    (ap (λ (b : Bool). b || list_any test xs) (or_left (test x) (list_any test (xs ++ ys)) h) ∙ rest.0, rest.1)

pub any_none : (test : ℕ → Bool) (ps : List ℕ) → ((p : ℕ) → Has ps p → test p ≡ false) → list_any test ps ≡ false
any_none test [] h = refl
any_none test (p ∷ ps) h = ap (λ (b : Bool). b || list_any test ps) (h p (inl refl)) ∙ any_none test ps (λ q has. h q (inr has))

-- the names are declared, and these are their numbers
pub record AreNumbers (rows : List Row) (names : List (List ℕ)) (ids : List ℕ) : Type 0 where
  pub numbers : ids ≡ map (service_named rows) names
  pub known : list_any (is_unknown rows) names ≡ false
