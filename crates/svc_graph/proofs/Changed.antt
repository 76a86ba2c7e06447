-- A change adds to the history of one service, and leaves all else as it was.
use Rattle.std.proofs.Common.{◌≡◌, ◌≢◌, ℕ, zero, suc, ◌-◌, ◌<◌, ◌≤◌, List, [], ◌∷◌, length, length-append, slice_get, Option, Some, None, refl, sym, ap, subst, inl, inr, arith}
use Rattle.std.proofs.lemmas.Bool.{cases_eq}
use Rattle.std.proofs.Math.ListN.{get_or-map}
use Rattle.std.proofs.lemmas.Option.{slice_get-get_or}
use Rattle.propagation.proofs.Lists.{Has-append_cases}
use Rattle.propagation.specs.Lists.{Has}
use Rattle.svc_graph.proofs.Accepted.{brought-accepted}
use Rattle.svc_graph.specs.Accepting.{HasForm, IsChangeOf}
use Rattle.svc_expr.specs.Names.{Differ}
use Rattle.svc_graph.specs.Book.{IsBook, IsRow}
use Rattle.svc_graph.specs.declared.definition.Change.{Change}
use Rattle.svc_graph.specs.declared.definition.Change.TheVariants.{Birth, Set, Add, Drop, Define}
use Rattle.svc_graph.specs.declared.definition.Definition.{Definition}
use Rattle.svc_graph.specs.declared.kind.Kind.{Kind}
use Rattle.svc_graph.specs.History.{Row, definitions_brought, rows_after_change, declared_row, row_after, kind_of, names_in, present, roster_of, row_at}
use Rattle.svc_graph.specs.Refusals.{kind_at, refusal_of, first_error}
use Rattle.svc_value.specs.declared.value.ValueType.TheVariants.{Int}

pub length-changed : (rows : List Row) (n : ℕ) (change : Change) → length (rows_after_change rows n change) ≡ length rows
length-changed [] n change = refl
length-changed (row ∷ rows) zero change = refl
length-changed (row ∷ rows) (suc n) change = ap suc (length-changed rows n change)

pub roster_of-changed : (rows : List Row) (n : ℕ) (change : Change) → roster_of (rows_after_change rows n change) ≡ roster_of rows
roster_of-changed [] n change = refl
roster_of-changed (row ∷ rows) zero change = refl
roster_of-changed (row ∷ rows) (suc n) change = ap (λ kinds. kind_of row ∷ kinds) (roster_of-changed rows n change)

pub names_in-changed : (rows : List Row) (n : ℕ) (change : Change) → names_in (rows_after_change rows n change) ≡ names_in rows
names_in-changed [] n change = refl
names_in-changed (row ∷ rows) zero change = refl
names_in-changed (row ∷ rows) (suc n) change = ap (λ names. row.name ∷ names) (names_in-changed rows n change)

-- the row of the service grows
pub row_at-changed : (rows : List Row) (n : ℕ) (change : Change) → n < length rows → row_at (rows_after_change rows n change) n ≡ row_after (row_at rows n) change
row_at-changed [] n change within = absurd (omega arith)
row_at-changed (row ∷ rows) zero change within = refl
row_at-changed (row ∷ rows) (suc n) change within = row_at-changed rows n change (omega arith)

-- every other row stays
pub row_at-changed_other : (rows : List Row) (n m : ℕ) (change : Change) → m ≢ n → row_at (rows_after_change rows n change) m ≡ row_at rows m
row_at-changed_other [] n m change other = refl
row_at-changed_other (row ∷ rows) zero zero change other = absurd (other refl)
row_at-changed_other (row ∷ rows) zero (suc m) change other = refl
row_at-changed_other (row ∷ rows) (suc n) zero change other = refl
row_at-changed_other (row ∷ rows) (suc n) (suc m) change other = row_at-changed_other rows n m change (λ same. other (ap suc same))

-- a change brings at most one definition
length-brought : (last : Option Definition) (change : Change) → length (definitions_brought last change) ≤ 1
length-brought None (Birth first) = omega arith
length-brought None (Set value) = omega arith
length-brought None (Add member) = omega arith
length-brought None (Drop member) = omega arith
length-brought None (Define formula) = omega arith
length-brought (Some last) change = omega arith

-- an element that a look-up gives is there
pub Has-slice_get : {A : Type 0} (xs : List A) (i : ℕ) (x : A) → slice_get xs i ≡ Some x → Has xs x
Has-slice_get [] i x h = absurd (cc)
Has-slice_get (y ∷ xs) zero x h = inl (cc)
Has-slice_get (y ∷ xs) (suc i) x h = inr (Has-slice_get xs i x h)

-- where there is no last definition, there is none
pub present-None : (history : List Definition) → present history ≡ None → history ≡ []
present-None [] h = refl
present-None (d ∷ ds) h =
    let within : length (d ∷ ds) - 1 < length (d ∷ ds) = omega arith in
    let there = slice_get-get_or (d ∷ ds) (length (d ∷ ds) - 1) d within in
    absurd (cc)

-- the kind of a row is that of its place
pub kind_at-roster : (rows : List Row) (n : ℕ) → kind_at (roster_of rows) n ≡ kind_of (row_at rows n)
kind_at-roster rows n = get_or-map kind_of rows n (declared_row [] 0 Int)

-- the row of a service after an accepted change of it
grown-row : (kinds : List Kind) (n : ℕ) (row : Row) (change : Change) → IsRow kinds n row → HasForm (kind_at kinds n).rank change → length row.history < 1024000 →
    first_error kinds n (present row.history) change ≡ None → IsRow kinds n (row_after row change)
grown-row kinds n row change h form room none =
    record {
      rank = h.rank;
      clock = rw length-append (omega (arith, length-brought (present row.history) change));
      definitions = λ d has. elim (Has-append_cases row.history (definitions_brought (present row.history) change) d has) [
        | inl before ↦ h.definitions d before
        | inr new ↦ brought-accepted kinds n (present row.history) change (λ last at. h.definitions last (Has-slice_get row.history (length row.history - 1) last at)) form none d new
      ];
    }

-- a book after an accepted change is one
pub IsBook-changed : (rows : List Row) (n : ℕ) (change : Change) → IsBook rows → IsChangeOf rows n change → refusal_of rows n change ≡ None → IsBook (rows_after_change rows n change)
IsBook-changed rows n change h can none =
    record {
      few = rw (length-changed rows n change) h.few;
      names = subst Differ (sym (names_in-changed rows n change)) h.names;
      each = λ m within. subst (λ kinds. IsRow kinds m (row_at (rows_after_change rows n change) m)) (sym (roster_of-changed rows n change)) (each m (rw length-changed at within));
    }
  where
    each : (m : ℕ) → m < length rows → IsRow (roster_of rows) m (row_at (rows_after_change rows n change) m)
    each m within =
        elim (cases_eq m n) [
          | inl same ↦
              subst (λ k. IsRow (roster_of rows) k (row_at (rows_after_change rows n change) k)) (sym same) (subst (IsRow (roster_of rows) n) (sym (row_at-changed rows n change can.declared))
              (grown-row (roster_of rows) n (row_at rows n) change (h.each n can.declared) (subst (λ kind. HasForm kind.rank change) (sym (kind_at-roster rows n)) can.form) can.clock none))
          | inr other ↦ subst (IsRow (roster_of rows) m) (sym (row_at-changed_other rows n m change other)) (h.each m within)
        ]
