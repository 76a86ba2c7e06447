-- The canonical document of legs.
use Rattle.std.specs.Prelude.{◌≡◌, ℕ, ◌<◌, ◌≤◌, length, pos, List, [], ◌∷◌, ◌++◌, map, flat_map, codes, slice_index_or}
use Rattle.svc_expr.specs.Canonical.{canonical_text as expression_text}
use Rattle.svc_expr.specs.Tree.{tree_of}
use Rattle.svc_graph.specs.Accepting.{IsWritten}
use Rattle.svc_graph.specs.declared.definition.Change.{Change}
use Rattle.svc_graph.specs.declared.definition.Change.TheVariants.{Birth, Set, Add, Drop, Define}
use Rattle.svc_graph.specs.declared.definition.Definition.TheVariants.{Input, Derived}
use Rattle.svc_graph.specs.declared.definition.Formula.{Formula}
use Rattle.svc_plan.specs.declared.plan.Leg.{Leg}
use Rattle.svc_plan.specs.declared.plan.PlanChange.{PlanChange}
use Rattle.svc_plan.specs.declared.plan.ServiceLine.{ServiceLine}
use Rattle.svc_plan.specs.declared.plan.Mode.{Mode}
use Rattle.svc_plan.specs.declared.plan.StepEvent.{StepEvent}
use Rattle.svc_plan.specs.declared.plan.StepLine.{StepLine}
use Rattle.svc_plan.specs.declared.plan.StepEvent.TheVariants.{Do, Take, Turn}
use Rattle.document_reading.specs.Document.{HasLegs}
use Rattle.svc_value.specs.Printed.{printed_value}
use Rattle.svc_value.specs.declared.value.Value.TheVariants as value
use Rattle.svc_value.specs.declared.value.ValueType.{ValueType}
use Rattle.svc_value.specs.declared.value.ValueType.TheVariants as type
use Rattle.svc_value.specs.declared.limits.TheConstants.{MAX_DOCUMENT_LEN, MAX_LINE_LEN}

-- ---- services

-- the services that legs declare, by their numbers
abbrev pub services_of : List Leg → List ServiceLine
services_of legs = flat_map (λ leg. leg.services) legs

-- the service with this number; one without a name if it is not declared
abbrev pub service_at : List ServiceLine → ℕ → ServiceLine
service_at services n = slice_index_or services n (record { name = []; rank = 0; ty = type.Int })

-- the name of the service with this number
abbrev pub name_of : List ServiceLine → ℕ → List ℕ
name_of services n = (service_at services n).name

-- ---- parts of lines

-- `int` or `text`
abbrev pub type_text : ValueType → List ℕ
type_text type.Int = codes "int"
type_text type.Text = codes "text"

-- the name and the type of a service, as its declaration has them
abbrev pub declared_text : ServiceLine → List ℕ
declared_text service = service.name ++ codes " : " ++ type_text service.ty

-- members behind `over`, with commas between, where there are any
abbrev pub over_text : List (List ℕ) → List ℕ
over_text [] = []
over_text (member ∷ members) = codes " over " ++ member ++ flat_map (λ other. codes ", " ++ other) members

-- an expression and its members
abbrev pub formula_text : List ServiceLine → Formula → List ℕ
formula_text services formula =
    expression_text (map (name_of services) formula.fixed) (tree_of formula.expr) ++ over_text (map (name_of services) formula.members)

-- ---- lines, without the LF that ends them

-- the line of a change of service n, which for a birth is the declaration of the service
abbrev pub change_text : List ServiceLine → ℕ → Change → List ℕ
change_text services n (Birth (Input first)) = codes "input " ++ declared_text (service_at services n) ++ codes " = " ++ printed_value first
change_text services n (Birth (Derived formula)) =
    codes "derived " ++ declared_text (service_at services n) ++ codes " rank " ++ printed_value (value.Int (pos (service_at services n).rank)) ++ codes " = "
    ++ formula_text services formula
change_text services n (Set next) = codes "set " ++ name_of services n ++ codes " = " ++ printed_value next
change_text services n (Add member) = codes "add " ++ name_of services n ++ codes " " ++ name_of services member
change_text services n (Drop member) = codes "drop " ++ name_of services n ++ codes " " ++ name_of services member
change_text services n (Define formula) = codes "define " ++ name_of services n ++ codes " = " ++ formula_text services formula

-- the step line of an event
abbrev pub step_text : List ServiceLine → StepEvent → List ℕ
step_text services (Do n) = codes "do " ++ name_of services n
step_text services (Take reader sender) = codes "take " ++ name_of services reader ++ codes " from " ++ name_of services sender
step_text services (Turn n) = codes "turn " ++ name_of services n

-- ---- documents

-- the lines of a leg: its changes in order, its step lines in order, and `settle`
abbrev pub leg_lines : List ServiceLine → Leg → List (List ℕ)
leg_lines services leg =
    map (λ change. change_text services change.id change.change) leg.changes ++ map (λ step. step_text services step.event) leg.steps
    ++ codes "settle" ∷ []

-- lines, each ended by an LF
abbrev pub with_line_ends : List (List ℕ) → List ℕ
with_line_ends lines = flat_map (λ line. line ++ codes "\n") lines

-- the lines of all legs
abbrev pub canonical_text : List Leg → List ℕ
canonical_text legs = with_line_ends (flat_map (leg_lines (services_of legs)) legs)

-- ---- what can be printed

-- a formula of the change has a service for each name of its expression
abbrev pub HasNames : Change → Type 0
HasNames (Birth (Derived formula)) = IsWritten formula
HasNames (Define formula) = IsWritten formula
HasNames change = Unit {0}

-- the change is one of the first `count` services, and its formula has its names
abbrev pub IsPrintable : ℕ → PlanChange → Type 0
IsPrintable count change = (change.id < count) × HasNames change.change

-- ---- what is read again

-- each line is within the limit of a line
abbrev pub AreShort : List (List ℕ) → Type 0
AreShort [] = Unit {0}
AreShort (line ∷ lines) = (length line ≤ MAX_LINE_LEN) × AreShort lines

-- what a leg says but for the numbers of its step lines
abbrev pub said_by : Leg → List ServiceLine × List PlanChange × List StepEvent
said_by leg = (leg.services, leg.changes, map (λ (x : StepLine). x.event) leg.steps)

-- the canonical document of legs is within the limits of bytes and lines
pub record IsWithinLimits (legs : List Leg) : Type 0 where
  pub bytes : length (canonical_text legs) ≤ MAX_DOCUMENT_LEN
  pub lines : AreShort (flat_map (leg_lines (services_of legs)) legs)

-- these legs are those of the canonical document, and say the same but for the numbers of their step lines
pub record AreReadAgain (mode : Mode) (legs again : List Leg) : Type 0 where
  pub accepted : HasLegs mode (canonical_text legs) again
  pub same : map said_by again ≡ map said_by legs
