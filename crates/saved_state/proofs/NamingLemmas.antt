-- Names in place of numbers, and numbers in place of names.
use Rattle.std.proofs.Common.{drop, cond, not, ◌≡◌, ℕ, zero, suc, ◌+◌, ◌<◌, Bool, true, false, List, [], ◌∷◌, length, map, get_or, All, refl, sym, ap, ap₂, subst, ◌∙◌, arith, inl, inr}
use Rattle.std.specs.Str.{bytes_eq}
use Rattle.std.proofs.lemmas.List.{length-map}
use Rattle.std.proofs.lemmas.List.Sums.{passes_at_first, position_or_len_is}
use Rattle.std.proofs.lemmas.Slice.Eq.{bytes_eq-Decides}
use Rattle.propagation.specs.Lists.{AreDistinct, Has}
use Rattle.propagation.proofs.Lists.{Has-append_left}
use Rattle.svc_expr.specs.Canonical.{name_at, IsInOrder}
use Rattle.svc_expr.specs.Tree.{tree_of}
use Rattle.svc_graph.specs.Accepting.{HasForm}
use Rattle.svc_graph.specs.declared.definition.Change.TheVariants.{Birth}
use Rattle.svc_expr.specs.Grammar.{name_index}
use Rattle.svc_expr.specs.Names.{Differ}
use Rattle.svc_graph.specs.Book.{IsBook}
use Rattle.svc_graph.specs.declared.definition.Definition.{Definition}
use Rattle.svc_graph.specs.declared.definition.Definition.TheVariants as definition
use Rattle.svc_graph.specs.History.{kind_of, names_in as row_names, roster_of, row_at}
use Rattle.svc_token.specs.Word.{IsName}
use Rattle.saved_state.specs.declared.named.NamedDefinition.{NamedDefinition}
use Rattle.saved_state.specs.declared.named.NamedDefinition.TheVariants.{Input, Derived}
use Rattle.saved_state.specs.declared.named.NamedRow.{NamedRow}
use Rattle.saved_state.specs.declared.saved.ServiceRow.{ServiceRow}
use Rattle.saved_state.specs.Named.{named_definition, named_row, named_rows, names_of, numbered_definition, numbered_row, numbered_rows, IsKnown, IsNamedDefinition, IsNamedRow, IsFormed}
use Rattle.saved_state.specs.States.{names_in, names_at, row_of, rows_of, IsOrdered}
use Rattle.saved_state.proofs.ListLemmas.{all_cons, all_head, all_tail, all_nil, all_mapped}

-- ---- a name and its number

-- the name with the number of a name is that name
pub name_there : (names : List (List ℕ)) (name : List ℕ) → name_index names name < length names → name_at names (name_index names name) ≡ name
name_there names name less = (bytes_eq-Decides (name_at names (name_index names name)) name).0 (passes_at_first (λ other. bytes_eq other name) names [] less)

pub names_there : (names xs : List (List ℕ)) → All (λ name. name_index names name < length names) xs → names_at names (map (name_index names) xs) ≡ xs
names_there names [] h = refl
names_there names (x ∷ xs) h =
    ap₂ (λ (y : List ℕ) (ys : List (List ℕ)). y ∷ ys) (name_there names x (all_head (λ name. name_index names name < length names) x xs h))
    (names_there names xs (all_tail (λ name. name_index names name < length names) x xs h))

has_name : (names : List (List ℕ)) (k : ℕ) (d : List ℕ) → k < length names → Has names (get_or names k d)
has_name [] k d less = absurd (omega (arith, less))
has_name (name ∷ names) zero d less = inl refl
has_name (name ∷ names) (suc k) d less = inr (has_name names k d (omega (arith, less)))

-- names at two places differ
apart : (names : List (List ℕ)) (i k : ℕ) (d : List ℕ) → Differ names → k < i → i < length names → get_or names k d ≡ get_or names i d → ⊥
apart [] i k d differ l m e = absurd (omega (arith, m))
apart (name ∷ names) zero k d differ l m e = absurd (omega (arith, l))
apart (name ∷ names) (suc i) zero d differ l m e = differ.0 (subst (Has names) (sym e) (has_name names i d (omega (arith, m))))
apart (name ∷ names) (suc i) (suc k) d differ l m e = apart names i k d differ.1 (omega (arith, l)) (omega (arith, m)) e

unequal : (x y : List ℕ) → (x ≡ y → ⊥) → bytes_eq x y ≡ false
unequal x y h = by (bytes_eq x y) refl
  where
    by : (b : Bool) → bytes_eq x y ≡ b → bytes_eq x y ≡ false
    by true e = absurd (h ((bytes_eq-Decides x y).0 e))
    by false e = e

-- the number of the name with a number is that number
pub number_there : (names : List (List ℕ)) (p : ℕ) → Differ names → p < length names → name_index names (name_at names p) ≡ p
number_there names p differ l =
    position_or_len_is (λ other. bytes_eq other (name_at names p)) names p [] (omega (arith, l))
    (λ k m. unequal (get_or names k []) (name_at names p) (λ e. apart names p k [] differ m l e))
    (λ m. (bytes_eq-Decides (get_or names p []) (name_at names p)).1 refl)

-- ---- names that differ have numbers that differ

module _ (names : List (List ℕ)) where
  has_number : (xs : List (List ℕ)) (p : ℕ) → All (λ name. name_index names name < length names) xs → Has (map (name_index names) xs) p → Has xs (name_at names p)
  has_number [] p known has = absurd has
  has_number (x ∷ xs) p known (inl same) =
      inl (sym (name_there names x (all_head (λ name. name_index names name < length names) x xs known)) ∙ ap (name_at names) same)
  has_number (x ∷ xs) p known (inr later) = inr (has_number xs p (all_tail (λ name. name_index names name < length names) x xs known) later)

  pub numbers_differ : (xs : List (List ℕ)) → Differ xs → All (λ name. name_index names name < length names) xs → AreDistinct (map (name_index names) xs)
  numbers_differ [] differ known = tt
  numbers_differ (x ∷ xs) differ known =
      let rest = all_tail (λ name. name_index names name < length names) x xs known in
      let first = name_there names x (all_head (λ name. name_index names name < length names) x xs known) in (
        (λ has. differ.0 (subst (Has xs) first (has_number xs (name_index names x) rest has))),
        numbers_differ xs differ.1 rest,
      )

  -- ---- numbered and named again

  pub named_again : (d : NamedDefinition) → IsKnown names d → named_definition names (numbered_definition names d) ≡ d
  named_again (Input value) known = refl
  named_again (Derived formula) known = λ i. Derived (record { expr = formula.expr; names = names_there names formula.names known i; members = formula.members })

-- ---- named and numbered again

-- each of the numbers of a definition is that of a name
abbrev pub IsBelowAll : List (List ℕ) → Definition → Type 0
IsBelowAll names (definition.Input value) = Unit {0}
IsBelowAll names (definition.Derived formula) = All (λ p. p < length names) formula.fixed

module _ (names : List (List ℕ)) (differ : Differ names) where
  numbers_there : (ps : List ℕ) → All (λ p. p < length names) ps → map (name_index names) (names_at names ps) ≡ ps
  numbers_there [] h = refl
  numbers_there (p ∷ ps) h =
      ap₂ (λ (q : ℕ) (qs : List ℕ). q ∷ qs) (number_there names p differ (all_head (λ p. p < length names) p ps h)) (numbers_there ps (all_tail (λ p. p < length names) p ps h))

  all_known : (ps : List ℕ) → All (λ p. p < length names) ps → All (λ name. name_index names name < length names) (names_at names ps)
  all_known [] h = all_nil (λ (name : List ℕ). name_index names name < length names)
  all_known (p ∷ ps) h =
      let l = all_head (λ p. p < length names) p ps h in
      all_cons (λ name. name_index names name < length names) (name_at names p) (names_at names ps) (omega (arith, l, number_there names p differ l))
      (all_known ps (all_tail (λ p. p < length names) p ps h))

  numbered_again : (d : Definition) → IsBelowAll names d → numbered_definition names (named_definition names d) ≡ d
  numbered_again (definition.Input value) h = refl
  numbered_again (definition.Derived formula) h = λ i. definition.Derived (record { expr = formula.expr; fixed = numbers_there formula.fixed h i; members = formula.members })

  known_again : (d : Definition) → IsBelowAll names d → IsKnown names (named_definition names d)
  known_again (definition.Input value) h = tt
  known_again (definition.Derived formula) h = all_known formula.fixed h

  rows_numbered : (services : List ServiceRow) → All (λ service. IsBelowAll names service.definition) services → map (numbered_row names) (map (named_row names) services) ≡ services
  rows_numbered [] h = refl
  rows_numbered (service ∷ services) h =
      let d = numbered_again service.definition (all_head (λ (s : ServiceRow). IsBelowAll names s.definition) service services h) in
      λ i. record service { definition = d i } ∷ rows_numbered services (all_tail (λ (s : ServiceRow). IsBelowAll names s.definition) service services h) i

  rows_known : (services : List ServiceRow) → All (λ service. IsBelowAll names service.definition) services → All (λ row. IsKnown names row.definition) (map (named_row names) services)
  rows_known services h = all_mapped (λ (row : NamedRow). IsKnown names row.definition) (named_row names) services (λ k d l. known_again (get_or services k d).definition (h k d l))

-- ---- of a book

names_same : (services : List ServiceRow) → row_names (rows_of services) ≡ names_in services
names_same [] = refl
names_same (service ∷ services) = ap (λ (ns : List (List ℕ)). service.name ∷ ns) (names_same services)

pub named_names : (names : List (List ℕ)) (services : List ServiceRow) → names_of (map (named_row names) services) ≡ names_in services
named_names names [] = refl
named_names names (service ∷ services) = ap (λ (ns : List (List ℕ)). service.name ∷ ns) (named_names names services)

pub numbered_names : (names : List (List ℕ)) (rows : List NamedRow) → names_in (map (numbered_row names) rows) ≡ names_of rows
numbered_names names [] = refl
numbered_names names (row ∷ rows) = ap (λ (ns : List (List ℕ)). row.name ∷ ns) (numbered_names names rows)

row_there : (services : List ServiceRow) (n : ℕ) (d : ServiceRow) → n < length services → (row_at (rows_of services) n).history ≡ (get_or services n d).definition ∷ []
row_there [] n d l = absurd (omega (arith, l))
row_there (service ∷ services) zero d l = refl
row_there (service ∷ services) (suc n) d l = row_there services n d (omega arith)

pub has_each : (ps : List ℕ) (k : ℕ) (d : ℕ) → k < length ps → Has ps (get_or ps k d)
has_each [] k d less = absurd (omega (arith, less))
has_each (p ∷ ps) zero d less = inl refl
has_each (p ∷ ps) (suc k) d less = inr (has_each ps k d (omega (arith, less)))

module _ (services : List ServiceRow) (book : IsBook (rows_of services)) where
  pub names_differ : Differ (names_in services)
  names_differ = subst Differ (names_same services) book.names

  pub as_many : length (roster_of (rows_of services)) ≡ length (names_in services)
  as_many = length-map (rows_of services) kind_of ∙ length-map services row_of ∙ sym (length-map services (λ (s : ServiceRow). s.name))

  below : (n : ℕ) (d : Definition) → n < length services → Has (row_at (rows_of services) n).history d → IsBelowAll (names_in services) d
  below n (definition.Input value) l has = tt
  below n (definition.Derived formula) l has =
      let f = (book.each n (omega (arith, l, length-map services row_of))).definitions (definition.Derived formula) has in
      λ k d m. let there = f.1.below (get_or formula.fixed k d) (Has-append_left formula.fixed formula.members (get_or formula.fixed k d) (has_each formula.fixed k d m)) in
      let declared = there.declared in omega (arith, declared, as_many)

  all_below : All (λ service. IsBelowAll (names_in services) service.definition) services
  all_below n d l = below n (get_or services n d).definition l (subst (λ (ds : List Definition). Has ds (get_or services n d).definition) (sym (row_there services n d l)) (inl refl))

  pub numbered_back : numbered_rows (named_rows services) ≡ services
  numbered_back =
      ap (λ (names : List (List ℕ)). map (numbered_row names) (named_rows services)) (named_names (names_in services) services)
      ∙ rows_numbered (names_in services) names_differ services all_below

  pub named_known : All (λ row. IsKnown (names_of (named_rows services)) row.definition) (named_rows services)
  named_known =
      subst (λ (names : List (List ℕ)). All (λ row. IsKnown names row.definition) (named_rows services)) (sym (named_names (names_in services) services))
      (rows_known (names_in services) names_differ services all_below)

-- ---- what is read is formed

module _ (names : List (List ℕ)) where
  formed_definition : (rank : ℕ) (d : NamedDefinition) → IsKnown names d → IsNamedDefinition rank d → HasForm rank (Birth (numbered_definition names d))
  formed_definition rank (Input value) known h = h
  formed_definition rank (Derived formula) known h =
      (h.0, record { small = h.1.small; names = length-map formula.names (name_index names) ∙ h.1.count; apart = numbers_differ names formula.names h.1.differ known })

  ordered_definition : (rank : ℕ) (d : NamedDefinition) → IsKnown names d → IsNamedDefinition rank d → IsOrdered names (numbered_definition names d)
  ordered_definition rank (Input value) known h = tt
  ordered_definition rank (Derived formula) known h = subst (λ (ns : List (List ℕ)). IsInOrder ns (tree_of formula.expr)) (sym (names_there names formula.names known)) h.1.order

  all_formed : (rows : List NamedRow) → All (λ row. IsKnown names row.definition) rows → All IsNamedRow rows → All IsFormed (map (numbered_row names) rows)
  all_formed rows known h = all_mapped IsFormed (numbered_row names) rows
      (λ k d l. let r = h k d l in record { rank = r.rank; form = formed_definition (get_or rows k d).rank (get_or rows k d).definition (known k d l) r.definition })

  all_ordered : (rows : List NamedRow) → All (λ row. IsKnown names row.definition) rows → All IsNamedRow rows → All (λ service. IsOrdered names service.definition) (map (numbered_row names) rows)
  all_ordered rows known h = all_mapped (λ (service : ServiceRow). IsOrdered names service.definition) (numbered_row names) rows
      (λ k d l. ordered_definition (get_or rows k d).rank (get_or rows k d).definition (known k d l) (h k d l).definition)

pub rows_formed : (rows : List NamedRow) → All (λ row. IsKnown (names_of rows) row.definition) rows → All IsNamedRow rows → All IsFormed (numbered_rows rows)
rows_formed rows known h = all_formed (names_of rows) rows known h

pub rows_named : (rows : List NamedRow) → All IsNamedRow rows → All IsName (names_in (numbered_rows rows))
rows_named rows h = subst (All IsName) (sym (numbered_names (names_of rows) rows)) (all_mapped IsName (λ (row : NamedRow). row.name) rows (λ k d l. (h k d l).name))

pub rows_ordered : (rows : List NamedRow) → All (λ row. IsKnown (names_of rows) row.definition) rows → All IsNamedRow rows →
    All (λ service. IsOrdered (names_in (numbered_rows rows)) service.definition) (numbered_rows rows)
rows_ordered rows known h =
    subst (λ (names : List (List ℕ)). All (λ service. IsOrdered names service.definition) (numbered_rows rows)) (sym (numbered_names (names_of rows) rows)) (all_ordered (names_of rows) rows known h)

-- ---- the search for a name

pub index_here : (rows : List NamedRow) (i : ℕ) (row : NamedRow) (name : List ℕ) → i < length rows → row ≡ get_or rows i row → row.name ≡ name → name_index (names_of (drop i rows)) name ≡ 0
index_here [] i row name l e same = absurd (omega (arith, l))
index_here (first ∷ rows) zero row name l e same =
    position_or_len_is (λ other. bytes_eq other name) (first.name ∷ names_of rows) 0 [] (omega arith) (λ k m. absurd (omega (arith, m)))
    (λ m. (bytes_eq-Decides first.name name).1 (ap (λ (r : NamedRow). r.name) (sym e) ∙ same))
index_here (first ∷ rows) (suc i) row name l e same = index_here rows i row name (omega (arith, l)) e same

plus_one : (n : ℕ) → 1 + n ≡ n + 1
plus_one n = omega arith

index_after : (first : List ℕ) (names : List (List ℕ)) (name : List ℕ) → (first ≡ name → ⊥) → name_index (first ∷ names) name ≡ name_index names name + 1
index_after first names name other = ap (λ (b : Bool). cond (not b) (1 + name_index names name) 0) (unequal first name other) ∙ plus_one (name_index names name)

index_suc : (rows : List NamedRow) (i : ℕ) (row : NamedRow) (name : List ℕ) → i < length rows → row ≡ get_or rows i row → (row.name ≡ name → ⊥) →
    name_index (names_of (drop i rows)) name ≡ name_index (names_of (drop (suc i) rows)) name + 1
index_suc [] i row name l e other = absurd (omega (arith, l))
index_suc (first ∷ rows) zero row name l e other = index_after first.name (names_of rows) name (λ same. other (ap (λ (r : NamedRow). r.name) e ∙ same))
index_suc (first ∷ rows) (suc i) row name l e other = index_suc rows i row name (omega (arith, l)) e other

pub index_next : (rows : List NamedRow) (i : ℕ) (row : NamedRow) (name : List ℕ) → i < length rows → row ≡ get_or rows i row → (row.name ≡ name → ⊥) →
    name_index (names_of (drop i rows)) name ≡ name_index (names_of (drop (i + 1) rows)) name + 1
index_next rows i row name l e other =
    let next : suc i ≡ i + 1 = omega arith in
    index_suc rows i row name l e other ∙ ap (λ n. name_index (names_of (drop n rows)) name + 1) next
