-- A service that is born stays so, and after a leg each is.
use Rattle.std.proofs.Common.{◌≡◌, ◌≢◌, ℕ, zero, suc, ◌+◌, ◌-◌, ◌<◌, List, [], ◌∷◌, ◌++◌, length, drop, get_or, refl, ap, ◌∙◌, subst, arith, inl, inr}
use Rattle.std.proofs.lemmas.Bool.{cases_lt}
use Rattle.std.proofs.lemmas.List.{get_or-drop, length-drop}
use Rattle.svc_value.specs.declared.value.ValueType.TheVariants as type
use Rattle.svc_graph.specs.Central.{AreBorn}
use Rattle.svc_graph.specs.declared.definition.Change.{Change}
use Rattle.svc_graph.specs.declared.definition.Definition.{Definition}
use Rattle.svc_graph.specs.History.{Row, present, definitions_brought, rows_after_change, declared_row, history_of}
use Rattle.svc_plan.specs.declared.plan.Leg.{Leg}
use Rattle.svc_plan.specs.declared.plan.PlanChange.{PlanChange}
use Rattle.svc_plan.specs.declared.plan.ServiceLine.{ServiceLine}
use Rattle.svc_plan.specs.Rows.{with_services, with_changes, rows_after, EachBorn, IsLegAfter}

-- ---- who is born

-- a service that is born stays so
abbrev pub BornStay : List Row → List Row → Type 0
BornStay rows new = (n : ℕ) → history_of rows n ≢ [] → history_of new n ≢ []

append-some : {A : Type 0} (xs ys : List A) → xs ≢ [] → xs ++ ys ≢ []
append-some [] ys some e = some refl
append-some (x ∷ xs) ys some e = cc e

change-born : (rows : List Row) (n : ℕ) (change : Change) → BornStay rows (rows_after_change rows n change)
change-born [] n change p some = some
change-born (row ∷ rows) zero change zero some = append-some row.history (definitions_brought (present row.history) change) some
change-born (row ∷ rows) zero change (suc p) some = some
change-born (row ∷ rows) (suc n) change zero some = some
change-born (row ∷ rows) (suc n) change (suc p) some = change-born rows n change p some

changes-born : (rows : List Row) (changes : List PlanChange) → BornStay rows (with_changes rows changes)
changes-born rows [] p some = some
changes-born rows (x ∷ changes) p some = changes-born (rows_after_change rows x.id x.change) changes p (change-born rows x.id x.change p some)

services-born : (rows : List Row) (lines : List ServiceLine) → BornStay rows (with_services rows lines)
services-born [] lines p some = absurd (some refl)
services-born (row ∷ rows) lines zero some = some
services-born (row ∷ rows) lines (suc p) some = services-born rows lines p some

pub born-at : (rows : List Row) (n : ℕ) → n < length rows → EachBorn rows → history_of rows n ≢ []
born-at [] n less born = absurd (omega arith)
born-at (row ∷ rows) zero less born = born.0
born-at (row ∷ rows) (suc n) less born = born-at rows n (omega arith) born.1

pub born_each : (rows : List Row) → ((n : ℕ) → n < length rows → history_of rows n ≢ []) → EachBorn rows
born_each [] at = tt
born_each (row ∷ rows) at = (at 0 (omega arith), born_each rows (λ n less. at (suc n) (omega arith)))

pub leg_born : (rows : List Row) (leg : Leg) → EachBorn rows → IsLegAfter rows leg → EachBorn (rows_after rows leg)
leg_born rows leg born after = born_each (rows_after rows leg) each
  where
    each : (n : ℕ) → n < length (rows_after rows leg) → history_of (rows_after rows leg) n ≢ []
    each n less = elim (cases_lt n (length rows)) [
      | inl old ↦ changes-born (with_services rows leg.services) leg.changes n (services-born rows leg.services n (born-at rows n old born))
      | inr new ↦
          (let none : Row = declared_row [] 0 type.Int in
          let within : n - length rows < length (drop (length rows) (rows_after rows leg)) = rw length-drop (omega arith) in
          let place : length rows + (n - length rows) ≡ n = omega arith in
          subst (λ (row : Row). row.history ≢ []) (get_or-drop (length rows) (rows_after rows leg) (n - length rows) none ∙ ap (λ k. get_or (rows_after rows leg) k none) place)
          (after.born (n - length rows) none within))
    ]

-- so each has a clock
pub are_born : (rows : List Row) → EachBorn rows → AreBorn rows
are_born rows born n less = some (history_of rows n) (born-at rows n less born)
  where
    some : (history : List Definition) → history ≢ [] → 0 < length history
    some [] is = absurd (is refl)
    some (x ∷ history) is = omega arith
