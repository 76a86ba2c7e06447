-- What a leg makes of the rows of a book, and when it can be taken.
use Rattle.std.specs.Prelude.{◌≡◌, ◌≢◌, ℕ, ◌<◌, ◌≤◌, List, [], ◌∷◌, ◌++◌, map, length, drop, option_to_list, All, None}
use Rattle.svc_graph.specs.declared.definition.Change.{Change}
use Rattle.svc_graph.specs.Refusals.{AcceptsChange}
use Rattle.svc_graph.specs.History.{Row, rows_after_change, declared_row, find_service, present}
use Rattle.svc_token.specs.Word.{IsName}
use Rattle.svc_plan.specs.declared.plan.Leg.{Leg}
use Rattle.svc_plan.specs.declared.plan.PlanChange.{PlanChange}
use Rattle.svc_plan.specs.declared.plan.ServiceLine.{ServiceLine}
use Rattle.svc_plan.specs.declared.plan.StepEvent.{StepEvent}
use Rattle.svc_plan.specs.declared.plan.StepEvent.TheVariants.{Do, Take, Turn}
use Rattle.svc_value.specs.declared.limits.TheConstants.{MAX_CHANGES, MAX_RANK, MAX_SERVICES}

-- a service without a definition
abbrev pub row_of : ServiceLine → Row
row_of line = declared_row line.name line.rank line.ty

-- the rows with more services, which have no definition yet
abbrev pub with_services : List Row → List ServiceLine → List Row
with_services rows lines = rows ++ map row_of lines

-- the rows after changes, one after the other
abbrev pub with_changes : List Row → List PlanChange → List Row
with_changes rows [] = rows
with_changes rows (change ∷ changes) = with_changes (rows_after_change rows change.id change.change) changes

-- the rows after a leg: it declares its services, and then makes its changes
abbrev pub rows_after : List Row → Leg → List Row
rows_after rows leg = with_changes (with_services rows leg.services) leg.changes

-- the rows after legs, one after the other
abbrev pub rows_after_all : List Row → List Leg → List Row
rows_after_all rows [] = rows
rows_after_all rows (leg ∷ legs) = rows_after_all (rows_after rows leg) legs

-- the rows with the last definition of each alone: a book as a document finds it that goes on from there
abbrev pub present_rows : List Row → List Row
present_rows rows = map {A = Row} (λ row. record row { history = option_to_list (present row.history) }) rows

-- each service is born
abbrev pub EachBorn : List Row → Type 0
EachBorn [] = Unit {0}
EachBorn (row ∷ rows) = (row.history ≢ []) × EachBorn rows

-- ---- legs that can be taken

-- a name that is not declared, room for a service, and a rank within its limit
pub record IsServiceAfter (rows : List Row) (line : ServiceLine) : Type 0 where
  pub name : IsName line.name
  pub new : find_service rows line.name ≡ None
  pub room : length rows < MAX_SERVICES
  pub rank : line.rank ≤ MAX_RANK

-- so is each of these after those before it
abbrev pub AreServicesAfter : List Row → List ServiceLine → Type 0
AreServicesAfter rows [] = Unit {0}
AreServicesAfter rows (line ∷ lines) = IsServiceAfter rows line × AreServicesAfter (with_services rows (line ∷ [])) lines

-- a book accepts each of these changes after those before it
abbrev pub AreAcceptedAfter : List Row → List PlanChange → Type 0
AreAcceptedAfter rows [] = Unit {0}
AreAcceptedAfter rows (change ∷ changes) =
    AcceptsChange rows change.id change.change × AreAcceptedAfter (rows_after_change rows change.id change.change) changes

-- the services that the event names are among this many
abbrev pub IsAmong : ℕ → StepEvent → Type 0
IsAmong count (Do n) = n < count
IsAmong count (Take n p) = (n < count) × (p < count)
IsAmong count (Turn n) = n < count

-- the leg can be taken: its services can be declared and then its changes be made, which bring each service a definition, and
-- its step lines name services that are declared by its end
pub record IsLegAfter (rows : List Row) (leg : Leg) : Type 0 where
  pub services : AreServicesAfter rows leg.services
  pub accepted : AreAcceptedAfter (with_services rows leg.services) leg.changes
  pub few : length leg.changes ≤ MAX_CHANGES
  pub born : All (λ row. row.history ≢ []) (drop (length rows) (rows_after rows leg))
  pub steps : All (λ step. IsAmong (length (rows_after rows leg)) step.event) leg.steps

-- each leg can be taken after those before it
abbrev pub AreLegsAfter : List Row → List Leg → Type 0
AreLegsAfter rows [] = Unit {0}
AreLegsAfter rows (leg ∷ legs) = IsLegAfter rows leg × AreLegsAfter (rows_after rows leg) legs
