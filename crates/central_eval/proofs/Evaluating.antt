-- How the values of services come about one after another.
use Rattle.std.proofs.Common.{◌≡◌, ℕ, suc, ◌+◌, ◌<◌, ◌≤◌, List, [], ◌∷◌, ◌++◌, length, length-append, get_or, set, map, All, Contains, IsPermutation, Option, Some, None, is_some, option_map, true, ◌-◌, refl, sym, ap, ◌∙◌, subst, inl, inr, ◌⊎◌, add-zero, zero-add, true≢false, arith}
use Rattle.std.proofs.lemmas.Bool.{cases_lt, cases_eq}
use Rattle.std.proofs.lemmas.List.{get_or-append-add, get_or_append_left, get_or_default, length-set}
use Rattle.std.proofs.lemmas.List.{get_or-set_same, get_or-set_other}
use Rattle.std.proofs.lemmas.List.Sorted.{Contains-permutation}
use Rattle.propagation.proofs.Central.{central_cons, has_deps}
use Rattle.propagation.specs.Lists.{Has}
use Rattle.propagation.specs.History.{Central, CentralAt, definition_at, deps, now}
use Rattle.std.proofs.lemmas.Option.{slice_get-get_or}
use Rattle.svc_graph.proofs.Ordered.{Contains-services, services_within}
use Rattle.svc_graph.proofs.Lists.{get_or-Has}
use Rattle.svc_graph.proofs.Theory.{AreBelow, AreBelow-definition, AreBelow-deps, definition-at_clock, definition-now}
use Rattle.svc_graph.specs.Book.{IsBook}
use Rattle.svc_graph.specs.Central.{AreBorn, AreCentral, services, services_from}
use Rattle.svc_graph.specs.declared.definition.Definition.{Definition}
use Rattle.svc_graph.specs.declared.lent.DefinitionRef.{DefinitionRef}
use Rattle.svc_graph.specs.History.{Row, at_clock, dependencies, history_of, present, row_at, theory}
use Rattle.svc_graph.specs.Lent.{definition_lent}
use Rattle.svc_graph.specs.Order.{IsInOrder, IsUpTo}
use Rattle.svc_value.specs.declared.value.Value.{Value}
use Rattle.central_eval.specs.Values.{nothing, value_at, value_by}

-- what holds of two lists holds of the second
pub All-right : (P : ℕ → Type 0) (xs ys : List ℕ) → All P (xs ++ ys) → All P ys
All-right P xs ys h k d within =
    subst P (get_or-append-add xs ys k d) (h (length xs + k) d (omega (arith, length-append xs ys)))

-- and of the first
pub All-left : (P : ℕ → Type 0) (xs ys : List ℕ) → All P (xs ++ ys) → All P xs
All-left P xs ys h k d within = subst P (get_or_append_left xs ys d k within) (h k d (omega (arith, length-append xs ys)))

-- at these clocks every dependency has a definition
pub record AreWhole (rows : List Row) (S : ℕ → ℕ) : Type 0 where
  pub defined : (n p : ℕ) → Has (deps (theory rows) n (S n)) p → is_some (definition_at (theory rows) p (S p)) ≡ true

-- the services of the list up to k that have a definition at these clocks have their central values
abbrev pub AreDone : List Row → (ℕ → ℕ) → List ℕ → ℕ → List Value → Type 0
AreDone rows S ids k values =
    (j : ℕ) → j < k → is_some (definition_at (theory rows) (get_or ids j 0) (S (get_or ids j 0))) ≡ true → CentralAt (theory rows) S (get_or ids j 0) (value_at values (get_or ids j 0))

-- the values of services each of which is central
central-all : (rows : List Row) (S : ℕ → ℕ) (values : List Value) (ps : List ℕ) → ((p : ℕ) → Has ps p → CentralAt (theory rows) S p (value_at values p)) →
    Central (theory rows) S ps (map (value_at values) ps)
central-all rows S values [] each = Central.none
central-all rows S values (p ∷ ps) each = central_cons (theory rows) S (each p (inl refl)) (central-all rows S values ps (λ q has. each q (inr has)))

-- a service of the book is in the list, before a service of a higher rank
before : (rows : List Row) (ids : List ℕ) → IsPermutation (services rows) ids → IsInOrder rows ids → (k p : ℕ) → k < length ids → p < length rows →
    (row_at rows p).rank < (row_at rows (get_or ids k 0)).rank → (j : ℕ) × (j < k) × (get_or ids j 0 ≡ p)
before rows ids all order k p within declared lower =
    let there : Contains (services rows) p = Contains-services rows p declared in
    let found = Contains-permutation (services rows) ids p all there in
    let at : get_or ids found.0 0 ≡ p = get_or_default ids found.0 0 p found.1 ∙ found.2 in
    elim (cases_lt found.0 k) [
      | inl earlier ↦ (found.0, earlier, at)
      | inr later ↦ absurd (no_later (order k found.0 later found.1) at)
    ]
  where
    no_later : {q : ℕ} → IsUpTo rows (get_or ids k 0) q → q ≡ p → ⊥
    no_later (inl higher) same = let h : (row_at rows p).rank < (row_at rows (get_or ids k 0)).rank = lower in omega (arith, subst (λ r. (row_at rows (get_or ids k 0)).rank < (row_at rows r).rank) same higher)
    no_later (inr equal) same = omega (arith, lower, equal.0 ∙ ap (λ r. (row_at rows r).rank) same)

-- how far the values have come along the list
pub record Progress (rows : List Row) (S : ℕ → ℕ) (ids : List ℕ) (k : ℕ) (values : List Value) : Type 0 where
  pub all : IsPermutation (services rows) ids
  pub order : IsInOrder rows ids
  pub count : length values ≡ length rows
  pub done : AreDone rows S ids k values

-- a place before the next is a place before this one, or this one
earlier_or_here : (j k : ℕ) → j < k + 1 → (j < k) ⊎ (j ≡ k)
earlier_or_here j k below = elim (cases_lt j k) [ inl less ↦ inl less | inr more ↦ inr (omega arith) ]

-- the next service of the list, with the meaning of its definition over the values so far
pub Progress-more : (rows : List Row) (S : ℕ → ℕ) (ids : List ℕ) (k : ℕ) (values : List Value) (d : Definition) → IsBook rows → AreWhole rows S →
    k < length ids → definition_at (theory rows) (get_or ids k 0) (S (get_or ids k 0)) ≡ Some d → Progress rows S ids k values →
    Progress rows S ids (k + 1) (set values (get_or ids k 0) (value_by d values))
Progress-more rows S ids k values d book whole within defined progress =
    record { all = progress.all; order = progress.order; count = length-set values id value ∙ progress.count; done = more }
  where
    id : ℕ
    id = get_or ids k 0

    value : Value
    value = value_by d values

    under : AreBelow rows id (dependencies d)
    under = AreBelow-definition rows book id (S id) d defined

    each : (p : ℕ) → Has (dependencies d) p → CentralAt (theory rows) S p (value_at values p)
    each p has =
        let found = before rows ids progress.all progress.order k p within (under.declared p has) (under.falls p has) in
        let there = whole.defined id p (has_deps (theory rows) id (S id) p d defined has) in
        subst (λ q. CentralAt (theory rows) S q (value_at values q)) found.2
        (progress.done found.0 found.1 (subst (λ q. is_some (definition_at (theory rows) q (S q)) ≡ true) (sym found.2) there))

    itself : CentralAt (theory rows) S id value
    itself = Central.more defined (central-all rows S values (dependencies d) each) refl Central.none

    placed : id < length values
    placed = rw progress.count (services_within rows ids progress.all k within)

    here : CentralAt (theory rows) S id (value_at (set values id value) id)
    here = subst (CentralAt (theory rows) S id) (sym (get_or-set_same values id value nothing placed)) itself

    more : AreDone rows S ids (k + 1) (set values id value)
    more j below there =
        elim (cases_eq (get_or ids j 0) id) [
          | inl same ↦ subst (λ p. CentralAt (theory rows) S p (value_at (set values id value) p)) (sym same) here
          | inr other ↦ elim (earlier_or_here j k below) [
            | inl earlier ↦ subst (CentralAt (theory rows) S (get_or ids j 0)) (sym (get_or-set_other values id (get_or ids j 0) value nothing other)) (progress.done j earlier there)
            | inr last ↦ absurd (other (ap (λ i. get_or ids i 0) last))
          ]
        ]

-- the next service of the list, where it has no definition
pub Progress-past : (rows : List Row) (S : ℕ → ℕ) (ids : List ℕ) (k : ℕ) (values : List Value) → definition_at (theory rows) (get_or ids k 0) (S (get_or ids k 0)) ≡ None → Progress rows S ids k values → Progress rows S ids (k + 1) values
Progress-past rows S ids k values undefined progress = record { all = progress.all; order = progress.order; count = progress.count; done = more }
  where
    more : AreDone rows S ids (k + 1) values
    more j below there =
        elim (earlier_or_here j k below) [
          | inl earlier ↦ progress.done j earlier there
          | inr last ↦ absurd (true≢false (sym there ∙ ap is_some (ap (λ i. definition_at (theory rows) (get_or ids i 0) (S (get_or ids i 0))) last ∙ undefined)))
        ]

-- once the list is done, a service that has a definition has its central value
pub central-done : (rows : List Row) (S : ℕ → ℕ) (ids : List ℕ) (k n : ℕ) (values : List Value) → length ids ≤ k → n < length rows → is_some (definition_at (theory rows) n (S n)) ≡ true → Progress rows S ids k values →
    CentralAt (theory rows) S n (value_at values n)
central-done rows S ids k n values past declared there progress =
    let found = Contains-permutation (services rows) ids n progress.all (Contains-services rows n declared) in
    let at : get_or ids found.0 0 ≡ n = get_or_default ids found.0 0 n found.1 ∙ found.2 in
    subst (λ p. CentralAt (theory rows) S p (value_at values p)) at
    (progress.done found.0 (omega (arith, found.1)) (subst (λ p. is_some (definition_at (theory rows) p (S p)) ≡ true) (sym at) there))

-- values in a row, each of which is central
central-row : (rows : List Row) (S : ℕ → ℕ) (n : ℕ) (more : List Row) (values : List Value) → length values ≡ length more →
    ((i : ℕ) → i < length values → CentralAt (theory rows) S (n + i) (get_or values i nothing)) → Central (theory rows) S (services_from n more) values
central-row rows S n [] [] count each = Central.none
central-row rows S n [] (value ∷ values) count each = absurd (omega arith)
central-row rows S n (row ∷ more) [] count each = absurd (omega arith)
central-row rows S n (row ∷ more) (value ∷ values) count each =
    let first : CentralAt (theory rows) S n value = subst (λ k. CentralAt (theory rows) S k value) (add-zero n) (each 0 (omega arith)) in
    central_cons (theory rows) S first
    (central-row rows S (suc n) more values (omega arith)
    (λ i within. let same : n + suc i ≡ suc n + i = omega arith in subst (λ k. CentralAt (theory rows) S k (get_or values i nothing)) same (each (suc i) (omega arith))))

-- a service that is born has a last definition
pub present-born : (history : List Definition) → 0 < length history → is_some (present history) ≡ true
present-born [] born = absurd (omega arith)
present-born (d ∷ ds) born =
    let within : length (d ∷ ds) - 1 < length (d ∷ ds) = omega arith in
    ap is_some (slice_get-get_or (d ∷ ds) (length (d ∷ ds) - 1) d within)

born-definition : (rows : List Row) → AreBorn rows → (n : ℕ) → n < length rows → is_some (definition_at (theory rows) n (now (theory rows) n)) ≡ true
born-definition rows born n declared = ap is_some (definition-now rows n) ∙ present-born (history_of rows n) (born n declared)

-- where every service is born, the present clocks are whole
pub AreWhole-born : (rows : List Row) → IsBook rows → AreBorn rows → AreWhole rows (now (theory rows))
AreWhole-born rows book born =
    record { defined = λ n p has. born-definition rows born p ((AreBelow-deps rows book n (now (theory rows) n)).declared p has) }

-- once all services of the list are done at the present clocks, the values are central
pub AreCentral-done : (rows : List Row) (ids : List ℕ) (k : ℕ) (values : List Value) → AreBorn rows → length ids ≤ k → Progress rows (now (theory rows)) ids k values → AreCentral rows values
AreCentral-done rows ids k values born past progress = central-row rows (now (theory rows)) 0 rows values progress.count each
  where
    each : (i : ℕ) → i < length values → CentralAt (theory rows) (now (theory rows)) (0 + i) (get_or values i nothing)
    each i within =
        let declared : i < length rows = omega (arith, progress.count) in
        subst (λ p. CentralAt (theory rows) (now (theory rows)) p (value_at values i)) (sym (zero-add i))
        (central-done rows (now (theory rows)) ids k i values past declared (born-definition rows born i declared) progress)

-- something made of what may be there is there where that is
pub is_some-option_map : {A B : Type 0} (f : A → B) (o : Option A) → is_some (option_map f o) ≡ is_some o
is_some-option_map f None = refl
is_some-option_map f (Some x) = refl

-- a definition that is lent from a service's history is its definition at that clock
pub definition-lent : (rows : List Row) (n c : ℕ) (history : List Definition) (found : Option DefinitionRef) → history ≡ history_of rows n → option_map definition_lent found ≡ at_clock history c → definition_at (theory rows) n c ≡ option_map definition_lent found
definition-lent rows n c history found same at = definition-at_clock rows n c ∙ ap (λ all. at_clock all c) (sym same) ∙ sym at

-- the dependencies of a definition are at most 16 declared services
pub few-dependencies : (rows : List Row) (n c : ℕ) (d : Definition) → IsBook rows → definition_at (theory rows) n c ≡ Some d → length (dependencies d) ≤ 16
few-dependencies rows n c d book defined = (AreBelow-definition rows book n c d defined).few

pub dependencies-declared : (rows : List Row) (n c : ℕ) (d : Definition) → IsBook rows → definition_at (theory rows) n c ≡ Some d → All (λ p. p < length rows) (dependencies d)
dependencies-declared rows n c d book defined k x within =
    (AreBelow-definition rows book n c d defined).declared (get_or (dependencies d) k x) (get_or-Has (dependencies d) k x within)
