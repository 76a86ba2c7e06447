-- What the lines so far leave for the next one.
use Rattle.std.specs.Prelude.{ℕ, ◌+◌, Bool, true, false, List, [], ◌∷◌, ◌++◌, map, length, unwrap_or, if◌then◌else◌}
use Rattle.svc_graph.specs.declared.definition.Change.TheVariants as change
use Rattle.svc_graph.specs.declared.definition.Definition.TheVariants as definition
use Rattle.svc_graph.specs.declared.definition.Formula.{Formula as TheFormula}
use Rattle.svc_graph.specs.History.{Row, find_service}
use Rattle.svc_plan.specs.declared.plan.Leg.{Leg}
use Rattle.svc_plan.specs.declared.plan.PlanChange.{PlanChange}
use Rattle.svc_plan.specs.declared.plan.ServiceLine.{ServiceLine}
use Rattle.svc_plan.specs.declared.plan.StepLine.{StepLine}
use Rattle.svc_plan.specs.declared.plan.StepEvent.TheVariants as event
use Rattle.svc_plan.specs.Rows.{with_services, with_changes}
use Rattle.document_reading.specs.declared.statement.NamedFormula.{NamedFormula}
use Rattle.document_reading.specs.declared.statement.Body.TheVariants.{Formula}
use Rattle.document_reading.specs.declared.statement.Statement.{Statement}
use Rattle.document_reading.specs.declared.statement.Statement.TheVariants.{Silence, Input, Derived, Set, Add, Drop, Define, Settle, Do, Take, Turn}

-- ---- what a statement says

-- the service that it declares, if it declares one
abbrev pub declares : Statement → List ServiceLine
declares (Input name ty value) = record { name = name; rank = 0; ty = ty } ∷ []
declares (Derived name ty rank body) = record { name = name; rank = rank; ty = ty } ∷ []
declares statement = []

-- the number of the service with this name, which is declared
abbrev pub service_named : List Row → List ℕ → ℕ
service_named rows name = unwrap_or (find_service rows name) 0

-- a formula over the services with these names
abbrev pub formula_of : List Row → NamedFormula → TheFormula
formula_of rows formula = record {
  expr = formula.expr;
  fixed = map (service_named rows) formula.names;
  members = map (service_named rows) formula.members;
}

-- the change that it makes where these services are declared before it, if it makes one
abbrev pub changes : List Row → Statement → List PlanChange
changes rows (Input name ty value) = record { id = length rows; change = change.Birth (definition.Input value) } ∷ []
changes rows (Derived name ty rank (Formula formula)) = record { id = length rows; change = change.Birth (definition.Derived (formula_of rows formula)) } ∷ []
changes rows (Set name value) = record { id = service_named rows name; change = change.Set value } ∷ []
changes rows (Add reader member) = record { id = service_named rows reader; change = change.Add (service_named rows member) } ∷ []
changes rows (Drop reader member) = record { id = service_named rows reader; change = change.Drop (service_named rows member) } ∷ []
changes rows (Define name (Formula formula)) = record { id = service_named rows name; change = change.Define (formula_of rows formula) } ∷ []
changes rows statement = []

-- the step line that it is, in the line with this number, if it is one
abbrev pub steps : List Row → ℕ → Statement → List StepLine
steps rows line (Do name) = record { line = line; event = event.Do (service_named rows name) } ∷ []
steps rows line (Take reader sender) = record { line = line; event = event.Take (service_named rows reader) (service_named rows sender) } ∷ []
steps rows line (Turn name) = record { line = line; event = event.Turn (service_named rows name) } ∷ []
steps rows line statement = []

-- ---- what the lines so far leave

-- How many lines there were; the rows of all services; how many legs had ended before the first line, and the legs that ended
-- since; what the open leg says, and whether it says anything.
pub record State : Type 0 where
  pub lines : ℕ
  pub rows : List Row
  pub before : ℕ
  pub ended : List Leg
  pub open_leg : Leg
  pub is_open : Bool

-- the leg without lines
abbrev pub empty_leg : Leg
empty_leg = record { services = []; changes = []; steps = [] }

-- before the first line, where these are the rows and so many legs have ended
abbrev pub start : List Row → ℕ → State
start rows before = record { lines = 0; rows = rows; before = before; ended = []; open_leg = empty_leg; is_open = false }

-- the leg with what a statement says as its last
abbrev pub leg_said : State → Statement → Leg
leg_said state statement = record {
  services = state.open_leg.services ++ declares statement;
  changes = state.open_leg.changes ++ changes state.rows statement;
  steps = state.open_leg.steps ++ steps state.rows (state.lines + 1) statement;
}

-- after a statement more
abbrev pub next : State → Statement → State
next state Silence = record state { lines = state.lines + 1 }
next state Settle = record state { lines = state.lines + 1; ended = state.ended ++ state.open_leg ∷ []; open_leg = empty_leg; is_open = false }
next state statement = record state {
  lines = state.lines + 1;
  rows = with_changes (with_services state.rows (declares statement)) (changes state.rows statement);
  open_leg = leg_said state statement;
  is_open = true;
}

-- the legs in this state, of which an open one is the last, as if a settle stood there
abbrev pub legs_in : State → List Leg
legs_in state = if state.is_open then state.ended ++ state.open_leg ∷ [] else state.ended
