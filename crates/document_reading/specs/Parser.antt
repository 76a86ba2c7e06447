-- The parser as the state that it keeps, and what its functions make of that state.
use Rattle.std.specs.Prelude.{◌≡◌, ℕ, ◌+◌, Bool, true, List, [], ◌∷◌, ◌++◌, length, nat_le, nat_lt, ◌||◌, Option, Some, None, is_some, Result, Ok, Err, if◌then◌else◌}
use Rattle.svc_graph.specs.declared.definition.Change.{Change}
use Rattle.svc_graph.specs.declared.errors.ChangeError.{ChangeError}
use Rattle.svc_graph.specs.declared.errors.ChangeError.TheVariants as error
use Rattle.svc_graph.specs.History.{Row, rows_after_change, find_service}
use Rattle.svc_graph.specs.Refusals.{refusal_of}
use Rattle.svc_plan.specs.declared.plan.Mode.{Mode}
use Rattle.svc_plan.specs.declared.plan.Mode.TheVariants as mode
use Rattle.svc_plan.specs.declared.plan.StepEvent.{StepEvent}
use Rattle.svc_plan.specs.declared.plan.ServiceLine.{ServiceLine}
use Rattle.svc_plan.specs.Rows.{row_of}
use Rattle.document_reading.specs.declared.parser.Parser.{Parser}
use Rattle.document_reading.specs.declared.refusal.Code.{Code}
use Rattle.document_reading.specs.declared.refusal.Code.TheVariants.{E05, E06, E07, E08, E09, E10, E11, E13, E14, E15, E16, E17, E18, E19}
use Rattle.document_reading.specs.declared.line_error.LineError.{LineError}
use Rattle.document_reading.specs.declared.line_error.LineError.TheVariants.{Refused, OutOfMemory}
use Rattle.document_reading.specs.declared.statement.Statement.{Statement}
use Rattle.document_reading.specs.Document.{AcceptsLine}
use Rattle.document_reading.specs.State.{State, next}
use Rattle.svc_value.specs.declared.limits.TheConstants.{MAX_CHANGES, MAX_LEGS, MAX_RANK, MAX_SERVICES}

-- what a parser keeps
abbrev pub state : Parser → State
state parser = record {
  lines = parser.lines;
  rows = parser.book;
  before = parser.before;
  ended = parser.ended;
  open_leg = parser.open_leg;
  is_open = parser.is_open;
}

-- ---- answers

-- the reading ended as it has to where this is the refusal
abbrev pub StopsFor : Option Code → LineError → Type 0
StopsFor found (Refused code) = found ≡ Some code
StopsFor found OutOfMemory = Unit {0}

-- the answer is a refusal exactly where there is one, which it then is
abbrev pub RefusesExactly : {X : Type 0} → Result X LineError → Option Code → Type 0
RefusesExactly (Ok given) found = found ≡ None
RefusesExactly (Err stop) found = StopsFor found stop

-- this code, where that holds
abbrev pub code_where : Bool → Code → Option Code
code_where holds code = if holds then Some code else None

-- where the answer is a refusal, this holds of its code
abbrev pub RefusedAt : {X : Type 0} → Result X LineError → (Code → Type 0) → Type 0
RefusedAt (Err (Refused code)) holds = holds code
RefusedAt result holds = Unit {0}

-- the line says something that is not refused in this state, and the state goes on to that one
pub record TakesLine (mode : Mode) (old : State) (line : List ℕ) (new : State) : Type 0 where
  pub statement : Statement
  pub accepts : AcceptsLine mode old line statement
  pub goes_on : new ≡ next old statement

-- ---- declarations

-- a name that is declared, or no room for a service
abbrev pub name_code : List Row → List ℕ → Option Code
name_code rows name = if is_some (find_service rows name) then Some E05 else code_where (nat_le MAX_SERVICES (length rows)) E06

-- a rank that is not from 1 to 1000
abbrev pub rank_code : ℕ → Option Code
rank_code rank = code_where (nat_lt rank 1 || nat_lt MAX_RANK rank) E07

-- ---- changes

-- the code of an error of the book, if it has one
abbrev pub code_of : ChangeError → Option Code
code_of error.Unknown = Some E08
code_of error.RankNotLower = Some E09
code_of error.WrongType = Some E10
code_of error.TooMany = Some E11
code_of error.NotInput = Some E13
code_of error.NotDerived = Some E14
code_of error.Already = Some E15
code_of error.NotMember = Some E16
code_of error.OutOfMemory = None

-- the code of an error of the book, if there is one, else that code
abbrev pub code_or : Option ChangeError → Option Code → Option Code
code_or None other = other
code_or (Some error) other = code_of error

-- no room in the leg or for a leg more
abbrev pub full_code : ℕ → ℕ → Option Code
full_code changes legs = if nat_le MAX_CHANGES changes then Some E17 else (if nat_le MAX_LEGS legs then Some E19 else None)

-- why a change is refused, if it is
abbrev pub change_code : State → ℕ → Change → Option Code
change_code state n change = code_or (refusal_of state.rows n change) (full_code (length state.open_leg.changes) (state.before + length state.ended))

-- after a change more
abbrev pub with_change : State → ℕ → Change → State
with_change state n change = record state {
  lines = state.lines + 1;
  rows = rows_after_change state.rows n change;
  open_leg = record state.open_leg { changes = state.open_leg.changes ++ record { id = n; change = change } ∷ [] };
  is_open = true;
}

-- with a service more
abbrev pub with_service : State → ServiceLine → State
with_service state line = record state {
  rows = state.rows ++ row_of line ∷ [];
  open_leg = record state.open_leg { services = state.open_leg.services ++ line ∷ [] };
}

-- ---- step lines

-- why a step line is refused whose names are declared, if it is
abbrev pub step_code : Mode → State → Option Code
step_code mode.Plain state = Some E18
step_code mode.Step state = code_where (nat_le MAX_LEGS (state.before + length state.ended)) E19

-- after a step line more
abbrev pub with_step : State → StepEvent → State
with_step state event = record state {
  lines = state.lines + 1;
  open_leg = record state.open_leg { steps = state.open_leg.steps ++ record { line = state.lines + 1; event = event } ∷ [] };
  is_open = true;
}
