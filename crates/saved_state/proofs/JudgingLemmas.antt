-- Services that are declared and defined in a book one after the other.
use Rattle.std.proofs.Common.{◌≡◌, ℕ, zero, suc, ◌+◌, ◌<◌, ◌≤◌, List, [], ◌∷◌, ◌++◌, length, take, get_or, All, Option, Some, None, Err, refl, sym, ap, subst, ◌∙◌, arith}
use Rattle.std.specs.Result.{IsErrOf}
use Rattle.std.proofs.lemmas.List.{length-map}
use Rattle.svc_graph.specs.Accepting.{IsChangeOf, HasForm}
use Rattle.svc_graph.specs.Book.{IsBook}
use Rattle.svc_graph.specs.declared.definition.Change.TheVariants.{Birth}
use Rattle.svc_graph.specs.declared.definition.Definition.{Definition}
use Rattle.svc_graph.specs.declared.errors.ChangeError.{ChangeError}
use Rattle.svc_graph.specs.History.{Row, rows_after_change, declared_row, history_of, find_service, present, row_at}
use Rattle.svc_graph.specs.Refusals.{refusal_of}
use Rattle.svc_plan.specs.Rows.{present_rows}
use Rattle.svc_token.specs.Word.{IsName}
use Rattle.document_reading.specs.Present.{bare_rows, half_present}
use Rattle.document_reading.proofs.PresentLemmas.{bare_more, length-bare, new_name, half_changed, half_all, half_accepts}
use Rattle.saved_state.specs.declared.saved.ServiceRow.{ServiceRow}
use Rattle.saved_state.specs.Named.{IsFormed}
use Rattle.saved_state.specs.States.{names_in, row_of, rows_of}
use Rattle.saved_state.proofs.ListLemmas.{all_unmapped}

-- ---- the rows of services

pub row_there : (services : List ServiceRow) (n : ℕ) (d : ServiceRow) → n < length services → row_at (rows_of services) n ≡ row_of (get_or services n d)
row_there [] n d l = absurd (omega (arith, l))
row_there (service ∷ services) zero d l = refl
row_there (service ∷ services) (suc n) d l = row_there services n d (omega arith)

pub many : (services : List ServiceRow) → length (rows_of services) ≡ length services
many services = length-map services row_of

pub name_is : (services : List ServiceRow) (n : ℕ) (service : ServiceRow) → All IsName (names_in services) → n < length services → service ≡ get_or services n service → IsName service.name
name_is services n service h l e = subst (λ (s : ServiceRow). IsName s.name) (sym e) (all_unmapped IsName (λ (s : ServiceRow). s.name) services h n service l)

pub formed_is : (services : List ServiceRow) (n : ℕ) (service : ServiceRow) → All IsFormed services → n < length services → service ≡ get_or services n service → IsFormed service
formed_is services n service h l e = subst IsFormed (sym e) (h n service l)

-- ---- declarations

pub declared_more : (services : List ServiceRow) (n : ℕ) (service : ServiceRow) → n < length services → service ≡ get_or services n service →
    bare_rows (take n (rows_of services)) ++ declared_row service.name service.rank service.ty ∷ [] ≡ bare_rows (take (n + 1) (rows_of services))
declared_more services n service l e =
    let row : row_at (rows_of services) n ≡ row_of service = row_there services n service l ∙ ap row_of (sym e) in
    (λ i. bare_rows (take n (rows_of services)) ++ declared_row (sym row i).name (sym row i).rank (sym row i).ty ∷ [])
    ∙ sym (bare_more (rows_of services) n (omega (arith, l, many services)))

pub declared_room : (services : List ServiceRow) (n : ℕ) → n < length services → length services ≤ 64 → length (bare_rows (take n (rows_of services))) < 64
declared_room services n l few = omega (arith, l, few, length-bare (rows_of services) n (omega (arith, l, many services)))

pub not_taken : (services : List ServiceRow) (n : ℕ) (service : ServiceRow) → n < length services → service ≡ get_or services n service → IsBook (rows_of services) →
    find_service (bare_rows (take n (rows_of services))) service.name ≡ None
not_taken services n service l e book =
    let row : row_at (rows_of services) n ≡ row_of service = row_there services n service l ∙ ap row_of (sym e) in
    ap (λ (r : Row). find_service (bare_rows (take n (rows_of services))) r.name) (sym row) ∙ new_name (rows_of services) n book (omega (arith, l, many services))

-- ---- births

last_there : (services : List ServiceRow) (n : ℕ) (service : ServiceRow) → n < length services → service ≡ get_or services n service → present (history_of (rows_of services) n) ≡ Some service.definition
last_there services n service l e = ap (λ (r : Row). present r.history) (row_there services n service l ∙ ap row_of (sym e))

pub defined_more : (services : List ServiceRow) (n : ℕ) (service : ServiceRow) → n < length services → service ≡ get_or services n service →
    rows_after_change (half_present n (rows_of services)) n (Birth service.definition) ≡ half_present (n + 1) (rows_of services)
defined_more services n service l e = half_changed (rows_of services) n service.definition (omega (arith, l, many services)) (last_there services n service l e)

-- the row of a service that is declared and not defined
half_row : (rows : List Row) (n : ℕ) → n < length rows → row_at (half_present n rows) n ≡ record (row_at rows n) { history = [] }
half_row [] n l = absurd (omega (arith, l))
half_row (row ∷ rows) zero l = refl
half_row (row ∷ rows) (suc n) l = half_row rows n (omega arith)

half_length : (n : ℕ) (rows : List Row) → length (half_present n rows) ≡ length rows
half_length zero rows = length-map rows (λ row. record row { history = [] })
half_length (suc n) [] = refl
half_length (suc n) (row ∷ rows) = ap suc (half_length n rows)

pub can_be_born : (services : List ServiceRow) (n : ℕ) (service : ServiceRow) → All IsFormed services → n < length services → service ≡ get_or services n service →
    IsChangeOf (half_present n (rows_of services)) n (Birth service.definition)
can_be_born services n service formed l e =
    let within : n < length (rows_of services) = omega (arith, l, many services) in
    let row : row_at (rows_of services) n ≡ row_of service = row_there services n service l ∙ ap row_of (sym e) in
    let here : row_at (half_present n (rows_of services)) n ≡ record (row_of service) { history = [] } = half_row (rows_of services) n within ∙ ap (λ (r : Row). record r { history = [] }) row in
    let empty : history_of (half_present n (rows_of services)) n ≡ [] = ap (λ (r : Row). r.history) here in
    record {
      declared = omega (arith, within, half_length n (rows_of services));
      first = (λ _. empty, λ _. refl);
      form = subst (λ (r : Row). HasForm r.rank (Birth service.definition)) (sym here) (formed_is services n service formed l e).form;
      clock = subst (λ (ds : List Definition). length ds < 1024000) (sym empty) (omega arith);
    }

some_none : (e : ChangeError) (o : Option ChangeError) → o ≡ None → o ≡ Some e → ⊥
some_none e None p q = cc
some_none e (Some x) p q = cc

pub not_refused : (services : List ServiceRow) (n : ℕ) (service : ServiceRow) (e : ChangeError) → n < length services → service ≡ get_or services n service → IsBook (rows_of services) →
    refusal_of (half_present n (rows_of services)) n (Birth service.definition) ≡ Some e → ⊥
not_refused services n service e l same book refused =
    some_none e (refusal_of (half_present n (rows_of services)) n (Birth service.definition))
    (half_accepts (rows_of services) n service.definition book (omega (arith, l, many services)) (last_there services n service l same)).passes refused

-- ---- all of them

one_each : (services : List ServiceRow) → present_rows (rows_of services) ≡ rows_of services
one_each [] = refl
one_each (service ∷ services) = ap (λ (rs : List Row). row_of service ∷ rs) (one_each services)

pub all_defined : (services : List ServiceRow) (n : ℕ) → n ≡ length services → half_present n (rows_of services) ≡ rows_of services
all_defined services n e = half_all (rows_of services) n (e ∙ sym (many services)) ∙ one_each services

-- services of which none is defined
pub none_defined : (rows : List Row) → bare_rows rows ≡ half_present 0 rows
none_defined rows = refl

-- the error of an error
pub error_is : {T E : Type 0} (x y : E) → IsErrOf {T = T} {E = E} (Err x) y → x ≡ y
error_is x y e = cc
