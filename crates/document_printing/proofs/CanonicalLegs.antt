-- Legs that can be taken can be printed, and how the text of a leg is made of the lines of its changes and steps.
use Rattle.std.proofs.Common.{◌≡◌, ℕ, zero, suc, ◌+◌, ◌≤◌, List, [], ◌∷◌, map, length, All, refl, ap, ◌∙◌, arith, length-append}
use Rattle.std.proofs.lemmas.List.{length-map}
use Rattle.svc_graph.specs.declared.definition.Change.{Change}
use Rattle.svc_graph.specs.declared.definition.Change.TheVariants.{Birth, Set, Add, Drop, Define}
use Rattle.svc_graph.specs.declared.definition.Definition.TheVariants.{Input, Derived}
use Rattle.svc_graph.specs.Accepting.{HasForm}
use Rattle.svc_graph.specs.History.{Row, rows_after_change, row_at}
use Rattle.svc_graph.proofs.Changed.{length-changed}
use Rattle.svc_plan.specs.declared.plan.Leg.{Leg}
use Rattle.svc_plan.specs.declared.plan.PlanChange.{PlanChange}
use Rattle.svc_plan.specs.declared.plan.ServiceLine.{ServiceLine}
use Rattle.svc_plan.specs.Rows.{row_of, with_services, with_changes, rows_after, AreAcceptedAfter, AreLegsAfter}
use Rattle.document_printing.specs.Canonical.{services_of, HasNames, IsPrintable}

-- a formula in its form has its names
names_there : (rank : ℕ) (change : Change) → HasForm rank change → HasNames change
names_there rank (Birth (Input value)) form = tt
names_there rank (Birth (Derived formula)) form = form.1
names_there rank (Set value) form = tt
names_there rank (Add member) form = tt
names_there rank (Drop member) form = tt
names_there rank (Define formula) form = form

-- ---- how many services there are

pub length-with_changes : (rows : List Row) (changes : List PlanChange) → length (with_changes rows changes) ≡ length rows
length-with_changes rows [] = refl
length-with_changes rows (x ∷ changes) = length-with_changes (rows_after_change rows x.id x.change) changes ∙ length-changed rows x.id x.change

pub length-with_services : (rows : List Row) (lines : List ServiceLine) → length (with_services rows lines) ≡ length rows + length lines
length-with_services rows lines = length-append rows (map row_of lines) ∙ ap (λ n. length rows + n) (length-map lines row_of)

pub length-rows_after : (rows : List Row) (leg : Leg) → length (rows_after rows leg) ≡ length rows + length leg.services
length-rows_after rows leg = length-with_changes (with_services rows leg.services) leg.changes ∙ length-with_services rows leg.services

-- ---- what can be printed

changes_printable : (rows : List Row) (changes : List PlanChange) (count : ℕ) → AreAcceptedAfter rows changes → length rows ≤ count → All (IsPrintable count) changes
changes_printable rows [] count accepted few k d less = absurd (omega arith)
changes_printable rows (x ∷ changes) count accepted few zero d less =
    (omega (arith, accepted.0.form.declared, few), names_there (row_at rows x.id).rank x.change accepted.0.form.form)
changes_printable rows (x ∷ changes) count accepted few (suc k) d less =
    changes_printable (rows_after_change rows x.id x.change) changes count accepted.1 (omega (arith, length-changed rows x.id x.change, few)) k d (omega arith)

legs_printable : (rows : List Row) (legs : List Leg) (count : ℕ) → AreLegsAfter rows legs → length rows + length (services_of legs) ≤ count
    → All (λ leg. All (IsPrintable count) leg.changes) legs
legs_printable rows [] count each few k d less = absurd (omega arith)
legs_printable rows (leg ∷ legs) count each few zero d less =
    changes_printable (with_services rows leg.services) leg.changes count each.0.accepted
    (omega (arith, length-with_services rows leg.services, length-append leg.services (services_of legs), few))
legs_printable rows (leg ∷ legs) count each few (suc k) d less =
    legs_printable (rows_after rows leg) legs count each.1 (omega (arith, length-rows_after rows leg, length-append leg.services (services_of legs), few)) k d (omega arith)

-- the legs of a document can be printed
pub printable : (legs : List Leg) → AreLegsAfter [] legs → All (λ leg. All (IsPrintable (length (services_of legs))) leg.changes) legs
printable legs each = legs_printable [] legs (length (services_of legs)) each (omega arith)
