-- What a change has to be before it is tested.
use Rattle.std.specs.Prelude.{◌≡◌, ℕ, ◌<◌, List, [], length, ◌↔◌, IsTrue}
use Rattle.propagation.specs.Lists.{AreDistinct}
use Rattle.svc_expr.specs.Tree.{tree_of, IsSmall}
use Rattle.svc_expr.specs.Types.{name_count}
use Rattle.svc_graph.specs.declared.definition.Change.{Change}
use Rattle.svc_graph.specs.declared.definition.Change.TheVariants.{Birth, Set, Define}
use Rattle.svc_graph.specs.declared.definition.Definition.TheVariants.{Input, Derived}
use Rattle.svc_graph.specs.declared.definition.Formula.{Formula}
use Rattle.svc_graph.specs.History.{Row, history_of, is_birth, row_at}
use Rattle.svc_value.specs.declared.value.Value.{Value}
use Rattle.svc_value.specs.declared.value.Value.TheVariants.{Bad}
use Rattle.svc_value.specs.declared.limits.TheConstants.{MAX_CLOCK}

-- the expression is within its limits, and has one service for each name, all different
pub record IsWritten (formula : Formula) : Type 0 where
  pub small : IsSmall (tree_of formula.expr)
  pub names : length formula.fixed ≡ name_count (tree_of formula.expr)
  pub apart : AreDistinct formula.fixed

-- the value is no fault
abbrev pub IsProper : Value → Type 0
IsProper (Bad fault) = ⊥
IsProper value = Unit {0}

-- an input is born with a proper value, and a derived service with a formula; a new value or formula is such a one
abbrev pub HasForm : ℕ → Change → Type 0
HasForm rank (Birth (Input value)) = (rank ≡ 0) × IsProper value
HasForm rank (Birth (Derived formula)) = (0 < rank) × IsWritten formula
HasForm rank (Set value) = IsProper value
HasForm rank (Define formula) = IsWritten formula
HasForm rank change = Unit {0}

-- the service is declared, a birth is its first change and any other is not, and its clock stays within its limit
pub record IsChangeOf (rows : List Row) (n : ℕ) (change : Change) : Type 0 where
  pub declared : n < length rows
  pub first : IsTrue (is_birth change) ↔ (history_of rows n ≡ [])
  pub form : HasForm (row_at rows n).rank change
  pub clock : length (history_of rows n) < MAX_CLOCK

-- the expression of a change, if it has one, is within its limits
abbrev pub IsSmallChange : Change → Type 0
IsSmallChange (Birth (Derived formula)) = IsSmall (tree_of formula.expr)
IsSmallChange (Define formula) = IsSmall (tree_of formula.expr)
IsSmallChange change = Unit {0}
