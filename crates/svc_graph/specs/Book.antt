-- What always holds of the rows of a book.
use Rattle.std.specs.Prelude.{◌≡◌, ℕ, ◌≤◌, ◌<◌, true, List, ◌++◌, map, length, Some}
use Rattle.propagation.specs.Lists.{AreDistinct, Has}
use Rattle.svc_expr.specs.Names.{Differ}
use Rattle.svc_expr.specs.Tree.{tree_of}
use Rattle.svc_expr.specs.Types.{takes_numbers, type_in}
use Rattle.svc_graph.specs.Accepting.{IsProper, IsWritten}
use Rattle.svc_graph.specs.declared.definition.Definition.{Definition}
use Rattle.svc_graph.specs.declared.definition.Definition.TheVariants.{Input, Derived}
use Rattle.svc_graph.specs.declared.definition.Formula.{Formula}
use Rattle.svc_graph.specs.declared.kind.Kind.{Kind}
use Rattle.svc_graph.specs.History.{Row, names_in, roster_of, row_at}
use Rattle.svc_graph.specs.Refusals.{kind_at}
use Rattle.svc_value.specs.Value.{HasType}
use Rattle.svc_value.specs.declared.value.ValueType.TheVariants.{Int}
use Rattle.svc_value.specs.declared.limits.TheConstants.{MAX_CLOCK, MAX_DEPENDENCIES, MAX_RANK, MAX_SERVICES}

-- service p is declared and has a lower rank than n
pub record IsBelow (kinds : List Kind) (n p : ℕ) : Type 0 where
  pub declared : p < length kinds
  pub rank : (kind_at kinds p).rank < (kind_at kinds n).rank

-- A formula of service n that is accepted: at most 16 dependencies, all different and below n, and every part has its type.
pub record IsFormulaOf (kinds : List Kind) (n : ℕ) (formula : Formula) : Type 0 where
  pub written : IsWritten formula
  pub apart : AreDistinct (formula.fixed ++ formula.members)
  pub few : length (formula.fixed ++ formula.members) ≤ MAX_DEPENDENCIES
  pub below : (p : ℕ) → Has (formula.fixed ++ formula.members) p → IsBelow kinds n p
  pub typed : type_in (tree_of formula.expr) (map (λ p. (kind_at kinds p).ty) formula.fixed) ≡ Some (kind_at kinds n).ty
  pub numbers : takes_numbers (tree_of formula.expr) ≡ true → (p : ℕ) → Has formula.members p → (kind_at kinds p).ty ≡ Int

-- an input has a proper value of its type, and a derived service an accepted formula
abbrev pub IsDefinitionOf : List Kind → ℕ → Definition → Type 0
IsDefinitionOf kinds n (Input value) = ((kind_at kinds n).rank ≡ 0) × HasType value (kind_at kinds n).ty × IsProper value
IsDefinitionOf kinds n (Derived formula) = (0 < (kind_at kinds n).rank) × IsFormulaOf kinds n formula

-- the rank and the clock of a row are within their limits, and its definitions are accepted
pub record IsRow (kinds : List Kind) (n : ℕ) (row : Row) : Type 0 where
  pub rank : row.rank ≤ MAX_RANK
  pub clock : length row.history ≤ MAX_CLOCK
  pub definitions : (d : Definition) → Has row.history d → IsDefinitionOf kinds n d

-- at most 64 services, of different names, each with its row
pub record IsBook (rows : List Row) : Type 0 where
  pub few : length rows ≤ MAX_SERVICES
  pub names : Differ (names_in rows)
  pub each : (n : ℕ) → n < length rows → IsRow (roster_of rows) n (row_at rows n)
