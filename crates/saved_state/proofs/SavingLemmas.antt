-- The state of a book.
use Rattle.std.proofs.Common.{◌≡◌, ℕ, zero, suc, ◌+◌, ◌<◌, ◌≤◌, List, [], ◌∷◌, ◌++◌, length, take, All, Option, Some, None, refl, sym, ap, subst, ◌∙◌, arith, inl, inr, append_assoc, append-nil}
use Rattle.std.specs.Prelude.{slice_get, option_to_list, ◌-◌}
use Rattle.std.proofs.lemmas.List.{length-map, take_all}
use Rattle.propagation.specs.Lists.{Has}
use Rattle.svc_expr.specs.Names.{Differ}
use Rattle.svc_graph.specs.Book.{IsBook, IsRow}
use Rattle.svc_graph.specs.Central.{AreBorn}
use Rattle.svc_graph.specs.declared.definition.Definition.{Definition}
use Rattle.svc_graph.specs.declared.kind.Kind.{Kind}
use Rattle.svc_graph.specs.History.{Row, history_of, kind_of, names_in as row_names, present, roster_of, row_at}
use Rattle.svc_plan.specs.Rows.{present_rows}
use Rattle.svc_token.specs.Word.{IsName}
use Rattle.document_reading.proofs.PresentLemmas.{born_present}
use Rattle.saved_state.specs.declared.saved.ServiceRow.{ServiceRow}
use Rattle.saved_state.specs.States.{names_in, rows_of, service_of, services_of, saved_of_rows, IsOrdered, IsSayable, IsState}
use Rattle.saved_state.proofs.ListLemmas.{all_cons, all_head, all_tail, all_nil}

-- ---- one service more

services_suc : (rows : List Row) (n : ℕ) → n < length rows → services_of (take (suc n) rows) ≡ services_of (take n rows) ++ service_of (row_at rows n) (present (history_of rows n))
services_suc [] n h = absurd (omega (arith, h))
services_suc (row ∷ rows) zero h = append-nil (service_of row (present row.history))
services_suc (row ∷ rows) (suc n) h =
    ap (λ (l : List ServiceRow). service_of row (present row.history) ++ l) (services_suc rows n (omega arith))
    ∙ sym (append_assoc (service_of row (present row.history)) (services_of (take n rows)) (service_of (row_at rows n) (present (history_of rows n))))

pub services_more : (rows : List Row) (n : ℕ) → n < length rows → services_of (take (n + 1) rows) ≡ services_of (take n rows) ++ service_of (row_at rows n) (present (history_of rows n))
services_more rows n h = let e : n + 1 ≡ suc n = omega arith in ap (λ (k : ℕ). services_of (take k rows)) e ∙ services_suc rows n h

pub services_all : (rows : List Row) (n : ℕ) → length rows ≤ n → services_of (take n rows) ≡ services_of rows
services_all rows n h = ap services_of (take_all n rows h)

-- ---- the rows of the services

-- each row has a definition
abbrev AllBorn : List Row → Type 0
AllBorn rows = (n : ℕ) → n < length rows → (d : Definition) × (present (history_of rows n) ≡ Some d)

rest_born : (row : Row) (rows : List Row) → AllBorn (row ∷ rows) → AllBorn rows
rest_born row rows b n l = b (suc n) (omega arith)

rows_again : (rows : List Row) → AllBorn rows → rows_of (services_of rows) ≡ present_rows rows
rows_again [] b = refl
rows_again (row ∷ rows) b =
    let d = b 0 (omega arith) in
    (λ i. rows_of (service_of row (d.1 i) ++ services_of rows))
    ∙ ap (λ (rs : List Row). record row { history = d.0 ∷ [] } ∷ rs) (rows_again rows (rest_born row rows b))
    ∙ (λ i. record row { history = option_to_list (sym d.1 i) } ∷ present_rows rows)

names_again : (services : List ServiceRow) → row_names (rows_of services) ≡ names_in services
names_again [] = refl
names_again (service ∷ services) = ap (λ (ns : List (List ℕ)). service.name ∷ ns) (names_again services)

present_names : (rows : List Row) → row_names (present_rows rows) ≡ row_names rows
present_names [] = refl
present_names (row ∷ rows) = ap (λ (ns : List (List ℕ)). row.name ∷ ns) (present_names rows)

present_roster : (rows : List Row) → roster_of (present_rows rows) ≡ roster_of rows
present_roster [] = refl
present_roster (row ∷ rows) = ap (λ (ks : List Kind). kind_of row ∷ ks) (present_roster rows)

abbrev last_alone : Row → Row
last_alone row = record row { history = option_to_list (present row.history) }

present_at : (rows : List Row) (n : ℕ) → n < length rows → row_at (present_rows rows) n ≡ last_alone (row_at rows n)
present_at [] n l = absurd (omega (arith, l))
present_at (row ∷ rows) zero l = refl
present_at (row ∷ rows) (suc n) l = present_at rows n (omega arith)

-- ---- a book of last definitions

has_at : (history : List Definition) (i : ℕ) (d : Definition) → slice_get history i ≡ Some d → Has history d
has_at [] i d e = absurd (cc)
has_at (x ∷ xs) zero d e = inl (cc)
has_at (x ∷ xs) (suc i) d e = inr (has_at xs i d e)

has_last : (history : List Definition) (d : Definition) → Has (option_to_list (present history)) d → Has history d
has_last history d has = by (present history) refl has
  where
    by : (last : Option Definition) → present history ≡ last → Has (option_to_list last) d → Has history d
    by None e has = absurd has
    by (Some x) e (inl same) = subst (Has history) same (has_at history (length history - 1) x e)
    by (Some x) e (inr none) = absurd none

few_last : (last : Option Definition) → length (option_to_list last) ≤ 1
few_last None = omega arith
few_last (Some d) = omega arith

last_row : (kinds : List Kind) (n : ℕ) (row : Row) → IsRow kinds n row → IsRow kinds n (last_alone row)
last_row kinds n row r = record {
  rank = r.rank;
  clock = let few = few_last (present row.history) in omega (arith, few);
  definitions = λ d has. r.definitions d (has_last row.history d has);
}

present_book : (rows : List Row) → IsBook rows → IsBook (present_rows rows)
present_book rows b = record {
  few = let long = length-map rows last_alone in omega (arith, long, b.few);
  names = subst Differ (sym (present_names rows)) b.names;
  each = λ n l.
      let within : n < length rows = omega (arith, l, length-map rows last_alone) in
      subst (λ (row : Row). IsRow (roster_of (present_rows rows)) n row) (sym (present_at rows n within))
      (subst (λ (kinds : List Kind). IsRow kinds n (last_alone (row_at rows n))) (sym (present_roster rows)) (last_row (roster_of rows) n (row_at rows n) (b.each n within)));
}

-- ---- the state

ordered_services : (names : List (List ℕ)) (rows : List Row) → All (λ row. All (IsOrdered names) (option_to_list (present row.history))) rows →
    All (λ service. IsOrdered names service.definition) (services_of rows)
ordered_services names [] h = all_nil (λ (service : ServiceRow). IsOrdered names service.definition)
ordered_services names (row ∷ rows) h =
    by (present row.history) (all_head (λ (r : Row). All (IsOrdered names) (option_to_list (present r.history))) row rows h)
    (ordered_services names rows (all_tail (λ (r : Row). All (IsOrdered names) (option_to_list (present r.history))) row rows h))
  where
    by : (last : Option Definition) → All (IsOrdered names) (option_to_list last) → All (λ service. IsOrdered names service.definition) (services_of rows) →
        All (λ service. IsOrdered names service.definition) (service_of row last ++ services_of rows)
    by None here rest = rest
    by (Some d) here rest =
        all_cons (λ (service : ServiceRow). IsOrdered names service.definition) (record { name = row.name; rank = row.rank; ty = row.ty; definition = d }) (services_of rows)
        (all_head (IsOrdered names) d [] here) rest

pub state_of_book : (leg : ℕ) (rows : List Row) → 1 ≤ leg → leg ≤ 1000 → IsBook rows → AreBorn rows → IsSayable rows → IsState (saved_of_rows leg rows)
state_of_book leg rows begun ended book born say =
    let again : rows_of (services_of rows) ≡ present_rows rows = rows_again rows (λ n l. born_present rows n born l) in
    let names : row_names rows ≡ names_in (services_of rows) = sym (present_names rows) ∙ ap row_names (sym again) ∙ names_again (services_of rows) in
    record {
      begun = begun;
      ended = ended;
      book = subst IsBook (sym again) (present_book rows book);
      names = subst (All IsName) names say.names;
      ordered = subst (λ (ns : List (List ℕ)). All (λ service. IsOrdered ns service.definition) (services_of rows)) names (ordered_services (row_names rows) rows say.ordered);
    }
