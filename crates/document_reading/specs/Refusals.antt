-- When a line is refused: the condition of each code, on what the line says and on what the lines before it leave.
use Rattle.std.specs.Prelude.{ℕ, ◌+◌, Bool, true, false, ◌&&◌, ◌||◌, nat_lt, nat_le, List, [], ◌∷◌, ◌++◌, length, is_some, is_none, Option, Some, None, if◌then◌else◌}
use Rattle.std.specs.List.{list_any}
use Rattle.svc_graph.specs.declared.definition.Change.{Change}
use Rattle.svc_graph.specs.declared.definition.Definition.{Definition}
use Rattle.svc_graph.specs.declared.kind.Kind.{Kind}
use Rattle.svc_graph.specs.History.{Row, history_of, find_service, present, roster_of}
use Rattle.svc_graph.specs.Refusals.{names_high, has_wrong_type, has_too_many, sets_derived, changes_input, brings_again, drops_other}
use Rattle.svc_plan.specs.declared.plan.Mode.{Mode}
use Rattle.svc_plan.specs.declared.plan.Mode.TheVariants as mode
use Rattle.svc_plan.specs.Rows.{with_services}
use Rattle.document_reading.specs.declared.refusal.Code.{Code}
use Rattle.document_reading.specs.declared.refusal.Code.TheVariants.{E05, E06, E07, E08, E09, E10, E11, E12, E13, E14, E15, E16, E17, E18, E19}
use Rattle.document_reading.specs.declared.statement.Body.{Body}
use Rattle.document_reading.specs.declared.statement.Body.TheVariants.{Formula, TooLarge}
use Rattle.document_reading.specs.declared.statement.Statement.{Statement}
use Rattle.document_reading.specs.declared.statement.Statement.TheVariants.{Silence, Derived, Set, Add, Drop, Define, Do, Take, Turn}
use Rattle.document_reading.specs.State.{State, declares, changes, steps}
use Rattle.svc_value.specs.declared.limits.TheConstants.{MAX_CHANGES, MAX_LEGS, MAX_RANK, MAX_SERVICES}

-- ---- names

-- the names that a formula is over; of an expression that is too large no name counts
abbrev pub names_over : Body → List (List ℕ)
names_over (Formula formula) = formula.names ++ formula.members
names_over TooLarge = []

-- the names in a statement but the one that it declares
abbrev pub names_in : Statement → List (List ℕ)
names_in (Derived name ty rank body) = names_over body
names_in (Set name value) = name ∷ []
names_in (Add reader member) = reader ∷ member ∷ []
names_in (Drop reader member) = reader ∷ member ∷ []
names_in (Define name (Formula formula)) = name ∷ formula.names ++ formula.members
names_in (Do name) = name ∷ []
names_in (Take reader sender) = reader ∷ sender ∷ []
names_in (Turn name) = name ∷ []
names_in statement = []

-- a name that is not declared
abbrev pub is_unknown : List Row → List ℕ → Bool
is_unknown rows name = is_none (find_service rows name)

-- ---- parts of conditions

-- it declares a name that is declared
abbrev pub is_taken : List Row → Statement → Bool
is_taken rows statement = list_any (λ line. is_some (find_service rows line.name)) (declares statement)

-- it declares a service where 64 are declared
abbrev pub is_past_services : List Row → Statement → Bool
is_past_services rows statement = nat_lt 0 (length (declares statement)) && nat_le MAX_SERVICES (length rows)

-- the declared rank is not from 1 to 1000
abbrev pub has_wrong_rank : Statement → Bool
has_wrong_rank (Derived name ty rank body) = nat_lt rank 1 || nat_lt MAX_RANK rank
has_wrong_rank statement = false

-- its expression has more than 128 nodes or a depth above 32
abbrev pub is_large : Statement → Bool
is_large (Derived name ty rank TooLarge) = true
is_large (Define name TooLarge) = true
is_large statement = false

-- the book's test holds of the change that it makes, if it makes one; a service that it declares counts as declared
abbrev pub is_tested : (List Kind → ℕ → Option Definition → Change → Bool) → List Row → Statement → Bool
is_tested test rows statement =
    list_any (λ made. test (roster_of (with_services rows (declares statement))) made.id
    (present (history_of (with_services rows (declares statement)) made.id)) made.change) (changes rows statement)

-- it makes a change, and the leg has 1,024
abbrev pub is_past_changes : State → Statement → Bool
is_past_changes state statement = nat_lt 0 (length (declares statement) + length (changes state.rows statement)) && nat_le MAX_CHANGES (length state.open_leg.changes)

-- it is a step line, which this mode has not
abbrev pub is_out_of_mode : Mode → State → Statement → Bool
is_out_of_mode mode.Plain state statement = nat_lt 0 (length (steps state.rows 0 statement))
is_out_of_mode mode.Step state statement = false

-- it says something, and 1,000 legs have ended
abbrev pub is_past_legs : State → Statement → Bool
is_past_legs state Silence = false
is_past_legs state statement = nat_le MAX_LEGS (state.before + length state.ended)

-- ---- the conditions

-- whether the condition of this code holds of the statement; E01 to E04 speak of bytes, E20 and E21 of other inputs
abbrev pub holds : Mode → State → Statement → Code → Bool
holds mode state statement E05 = is_taken state.rows statement
holds mode state statement E06 = is_past_services state.rows statement
holds mode state statement E07 = has_wrong_rank statement
holds mode state statement E08 = list_any (is_unknown state.rows) (names_in statement)
holds mode state statement E09 = is_tested (λ kinds n last change. names_high kinds n change) state.rows statement
holds mode state statement E10 = is_tested has_wrong_type state.rows statement
holds mode state statement E11 = is_tested has_too_many state.rows statement
holds mode state statement E12 = is_large statement
holds mode state statement E13 = is_tested (λ kinds n last change. sets_derived kinds n change) state.rows statement
holds mode state statement E14 = is_tested (λ kinds n last change. changes_input kinds n change) state.rows statement
holds mode state statement E15 = is_tested brings_again state.rows statement
holds mode state statement E16 = is_tested drops_other state.rows statement
holds mode state statement E17 = is_past_changes state statement
holds mode state statement E18 = is_out_of_mode mode state statement
holds mode state statement E19 = is_past_legs state statement
holds mode state statement code = false

-- the codes of statements, the least first
abbrev pub statement_codes : List Code
statement_codes = E05 ∷ E06 ∷ E07 ∷ E08 ∷ E09 ∷ E10 ∷ E11 ∷ E12 ∷ E13 ∷ E14 ∷ E15 ∷ E16 ∷ E17 ∷ E18 ∷ E19 ∷ []

-- the first of the codes that passes a test
abbrev pub first_code : (Code → Bool) → List Code → Option Code
first_code test [] = None
first_code test (code ∷ codes) = if test code then Some code else first_code test codes

-- the lowest-numbered code whose condition holds, if one does
abbrev pub refusal : Mode → State → Statement → Option Code
refusal mode state statement = first_code (holds mode state statement) statement_codes
