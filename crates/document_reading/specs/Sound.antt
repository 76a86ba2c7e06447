-- What holds wherever a document is read without a refusal.
use Rattle.std.specs.Prelude.{◌≡◌, ◌≢◌, ℕ, ◌<◌, ◌≤◌, [], length, All}
use Rattle.svc_expr.specs.Tree.{tree_of, IsSmall}
use Rattle.svc_expr.specs.Types.{name_count}
use Rattle.svc_graph.specs.Accepting.{IsProper}
use Rattle.svc_expr.specs.Names.{Differ}
use Rattle.svc_graph.specs.History.{history_of}
use Rattle.svc_token.specs.Word.{IsName}
use Rattle.document_reading.specs.declared.statement.Body.{Body}
use Rattle.document_reading.specs.declared.statement.Body.TheVariants.{Formula, TooLarge}
use Rattle.document_reading.specs.declared.statement.NamedFormula.{NamedFormula}
use Rattle.document_reading.specs.declared.statement.Statement.{Statement}
use Rattle.document_reading.specs.declared.statement.Statement.TheVariants.{Input, Derived, Set, Define}
use Rattle.document_reading.specs.State.{State, start}
use Rattle.svc_value.specs.declared.limits.TheConstants.{MAX_CLOCK, MAX_DOCUMENT_LEN, MAX_LEGS}

-- the expression is within its limits, and its names are all different, one for each number in it
pub record IsNamedFormula (formula : NamedFormula) : Type 0 where
  pub small : IsSmall (tree_of formula.expr)
  pub count : length formula.names ≡ name_count (tree_of formula.expr)
  pub differ : Differ formula.names
  pub named : All IsName formula.names

-- a formula is such a one
abbrev pub IsProperBody : Body → Type 0
IsProperBody (Formula formula) = IsNamedFormula formula
IsProperBody TooLarge = Unit {0}

-- what a line can say: values are no faults, and formulas as above
abbrev pub IsProperStatement : Statement → Type 0
IsProperStatement (Input name ty value) = IsProper value
IsProperStatement (Derived name ty rank body) = IsProperBody body
IsProperStatement (Set name value) = IsProper value
IsProperStatement (Define name body) = IsProperBody body
IsProperStatement statement = Unit {0}

-- before the first line, where every service has one definition
pub record IsStart (state : State) : Type 0 where
  pub begins : state ≡ start state.rows state.before
  pub born : (n : ℕ) → n < length state.rows → history_of state.rows n ≢ []
  pub clocks : (n : ℕ) → length (history_of state.rows n) ≤ 1
  pub legs : state.before ≤ MAX_LEGS

-- between lines: every service has a definition, and no number is near its limit
pub record IsSound (state : State) : Type 0 where
  pub born : (n : ℕ) → n < length state.rows → history_of state.rows n ≢ []
  pub clocks : (n : ℕ) → length (history_of state.rows n) < MAX_CLOCK
  pub lines : state.lines ≤ MAX_DOCUMENT_LEN
