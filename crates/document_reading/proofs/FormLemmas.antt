-- What the book asks of a change before it is tested, where the names are declared.
use Rattle.std.proofs.Common.{◌≡◌, ℕ, ◌<◌, true, false, List, [], ◌∷◌, ◌++◌, length, refl, sym, ap, subst, ◌∙◌, arith}
use Rattle.std.specs.List.{list_any}
use Rattle.std.proofs.lemmas.List.{length-map}
use Rattle.svc_graph.specs.Accepting.{IsChangeOf, IsProper, IsWritten, HasForm}
use Rattle.svc_graph.specs.declared.definition.Change.{Change}
use Rattle.svc_graph.specs.declared.definition.Change.TheVariants.{Birth, Set, Add, Drop, Define}
use Rattle.svc_graph.specs.declared.definition.Definition.TheVariants.{Input, Derived}
use Rattle.svc_graph.specs.History.{Row, history_of, is_birth, row_at}
use Rattle.svc_value.specs.declared.value.Value.{Value}
use Rattle.svc_value.specs.declared.value.ValueType.{ValueType}
use Rattle.svc_plan.specs.declared.plan.ServiceLine.{ServiceLine}
use Rattle.svc_plan.specs.Rows.{row_of}
use Rattle.svc_plan.proofs.RowLemmas.{row_at-last, last_within}
use Rattle.document_reading.specs.declared.statement.NamedFormula.{NamedFormula}
use Rattle.document_reading.specs.Refusals.{is_unknown}
use Rattle.document_reading.specs.Sound.{IsNamedFormula, IsSound}
use Rattle.document_reading.specs.State.{State, service_named, formula_of}
use Rattle.document_reading.proofs.NumberLemmas.{named, apart_numbers, any-append}

written : (rows : List Row) (formula : NamedFormula) → IsNamedFormula formula → list_any (is_unknown rows) (formula.names ++ formula.members) ≡ false
    → IsWritten (formula_of rows formula)
written rows formula h known = record {
  small = h.small;
  names = length-map formula.names (service_named rows) ∙ h.count;
  apart = apart_numbers rows formula.names (any-append (is_unknown rows) formula.names formula.members known).0 h.differ;
}

-- a change that is no birth, of a declared name
changes_form : (state : State) (name : List ℕ) (change : Change) → IsSound state → is_unknown state.rows name ≡ false → is_birth change ≡ false
    → HasForm (row_at state.rows (service_named state.rows name)).rank change → IsChangeOf state.rows (service_named state.rows name) change
changes_form state name change sound known other form =
    let within = (named state.rows name known).within in
    record {
      declared = within;
      first = (λ is. absurd (cc), λ none. absurd (sound.born (service_named state.rows name) within none));
      form = form;
      clock = sound.clocks (service_named state.rows name);
    }

pub set_form : (state : State) (name : List ℕ) (value : Value) → IsSound state → is_unknown state.rows name ≡ false → IsProper value
    → IsChangeOf state.rows (service_named state.rows name) (Set value)
set_form state name value sound known proper = changes_form state name (Set value) sound known refl proper

pub add_form : (state : State) (name member : List ℕ) → IsSound state → is_unknown state.rows name ≡ false
    → IsChangeOf state.rows (service_named state.rows name) (Add (service_named state.rows member))
add_form state name member sound known = changes_form state name (Add (service_named state.rows member)) sound known refl tt

pub drop_form : (state : State) (name member : List ℕ) → IsSound state → is_unknown state.rows name ≡ false
    → IsChangeOf state.rows (service_named state.rows name) (Drop (service_named state.rows member))
drop_form state name member sound known = changes_form state name (Drop (service_named state.rows member)) sound known refl tt

pub define_form : (state : State) (name : List ℕ) (formula : NamedFormula) → IsSound state → is_unknown state.rows name ≡ false → IsNamedFormula formula
    → list_any (is_unknown state.rows) (formula.names ++ formula.members) ≡ false
    → IsChangeOf state.rows (service_named state.rows name) (Define (formula_of state.rows formula))
define_form state name formula sound known proper names =
    changes_form state name (Define (formula_of state.rows formula)) sound known refl (written state.rows formula proper names)

-- ---- births

module _ (rows : List Row) (line : ServiceLine) where
  last_rank : (row_at (rows ++ row_of line ∷ []) (length rows)).rank ≡ line.rank
  last_rank = ap (λ (row : Row). row.rank) (row_at-last rows (row_of line))

  last_empty : history_of (rows ++ row_of line ∷ []) (length rows) ≡ []
  last_empty = ap (λ (row : Row). row.history) (row_at-last rows (row_of line))

  birth_form : (change : Change) → is_birth change ≡ true → HasForm line.rank change → IsChangeOf (rows ++ row_of line ∷ []) (length rows) change
  birth_form change birth form = record {
    declared = last_within rows (row_of line);
    first = (λ _. last_empty, λ _. birth);
    form = subst (λ (rank : ℕ). HasForm rank change) (sym last_rank) form;
    clock = subst (λ (history : List _). length history < 1024000) (sym last_empty) (omega arith);
  }

pub input_form : (rows : List Row) (name : List ℕ) (ty : ValueType) (value : Value) → IsProper value
    → IsChangeOf (rows ++ row_of (record { name = name; rank = 0; ty = ty }) ∷ []) (length rows) (Birth (Input value))
input_form rows name ty value proper = birth_form rows (record { name = name; rank = 0; ty = ty }) (Birth (Input value)) refl (refl, proper)

pub derived_form : (rows : List Row) (name : List ℕ) (ty : ValueType) (rank : ℕ) (formula : NamedFormula) → 0 < rank → IsNamedFormula formula
    → list_any (is_unknown rows) (formula.names ++ formula.members) ≡ false
    → IsChangeOf (rows ++ row_of (record { name = name; rank = rank; ty = ty }) ∷ []) (length rows) (Birth (Derived (formula_of rows formula)))
derived_form rows name ty rank formula some proper names =
    birth_form rows (record { name = name; rank = rank; ty = ty }) (Birth (Derived (formula_of rows formula))) refl (some, written rows formula proper names)
