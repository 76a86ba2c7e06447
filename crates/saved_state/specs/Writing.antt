-- What can be written.
use Rattle.std.specs.Prelude.{ℕ, ◌≤◌, List, length, All}
use Rattle.svc_expr.specs.Canonical.{IsInOrder}
use Rattle.svc_expr.specs.Tree.{tree_of}
use Rattle.svc_graph.specs.Accepting.{IsWritten}
use Rattle.svc_graph.specs.declared.definition.Definition.{Definition}
use Rattle.svc_graph.specs.declared.definition.Definition.TheVariants.{Input, Derived}
use Rattle.svc_graph.specs.declared.definition.Formula.{Formula}
use Rattle.svc_token.specs.declared.token.TheConstants.{MAX_NAME_LEN}
use Rattle.svc_token.specs.Word.{IsName}
use Rattle.svc_value.specs.declared.limits.TheConstants.{MAX_DEPENDENCIES}
use Rattle.saved_state.specs.declared.saved.ServiceRow.{ServiceRow}
use Rattle.saved_state.specs.States.{names_at}

-- the formula is within its limits and has few members, and its names are names of the document, in the order of first mention
pub record IsPrintableFormula (names : List (List ℕ)) (formula : Formula) : Type 0 where
  pub written : IsWritten formula
  pub few : length formula.members ≤ MAX_DEPENDENCIES
  pub are_names : All IsName (names_at names formula.fixed)
  pub order : IsInOrder (names_at names formula.fixed) (tree_of formula.expr)

-- so the formula of a definition, if it has one
abbrev pub HasPrintable : List (List ℕ) → Definition → Type 0
HasPrintable names (Input value) = Unit {0}
HasPrintable names (Derived formula) = IsPrintableFormula names formula

-- the name of a service is short, and its definition can be written
pub record IsPrintable (names : List (List ℕ)) (service : ServiceRow) : Type 0 where
  pub name : length service.name ≤ MAX_NAME_LEN
  pub definition : HasPrintable names service.definition
