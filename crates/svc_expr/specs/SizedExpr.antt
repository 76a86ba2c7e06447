-- Trees within the limits, as reading builds them.
use Rattle.std.specs.Prelude.{◌≡◌, ℕ, ◌&&◌, nat_le, if◌then◌else◌, Option, Some, None, Result, Ok, Err, List}
use Rattle.svc_token.specs.declared.token.Token.{Token}
use Rattle.svc_expr.specs.declared.errors.ExprError.{ExprError}
use Rattle.svc_expr.specs.declared.errors.ExprError.TheVariants as errors
use Rattle.svc_expr.specs.declared.expr.Expr.{Expr}
use Rattle.svc_expr.specs.declared.sized_expr.SizedExpr.{SizedExpr}
use Rattle.svc_expr.specs.declared.sized_expr.ReadError.{ReadError}
use Rattle.svc_expr.specs.declared.sized_expr.ReadError.TheVariants.{Memory, Bad}
use Rattle.svc_expr.specs.declared.level.Level.TheVariants.{Whole}
use Rattle.svc_expr.specs.Tree.{Tree, nodes, depth, tree_of}
use Rattle.svc_expr.specs.Types.{name_count}
use Rattle.svc_expr.specs.Reading.{Part, naming, inner, level_at, all_read}
use Rattle.svc_expr.specs.declared.sized_expr.TheConstants.{MAX_DEPTH, MAX_NODES}
use Rattle.svc_expr.specs.declared.expression.TheConstants.{MAX_LEVELS}
use Rattle.svc_expr.specs.declared.gathering.TheConstants.{MAX_NAMES}

-- the tree, or None where it is beyond a limit, or has a name whose number is no byte
unfoldable pub fit : Tree → Part
fit e = if nat_le (nodes e) MAX_NODES && nat_le (depth e) MAX_DEPTH && nat_le (name_count e) MAX_NAMES then Some e else None

-- the tree of what was built
abbrev pub part_of : Option SizedExpr → Part
part_of None = None
part_of (Some small) = Some (tree_of small.expr)

-- the error says that reading gives nothing, or that memory ran out
abbrev pub Fails : {Y : Type 0} → ReadError → Option Y → Type 0
Fails Memory read = Unit {0}
Fails Bad read = read ≡ None

-- what was returned, seen by view, is what reading gives, unless memory ran out
abbrev pub Gives : {X Y : Type 0} → (X → Y) → Result X ReadError → Option Y → Type 0
Gives view (Ok x) read = read ≡ Some (view x)
Gives view (Err e) read = Fails e read

-- the tree of all the tokens, with at most 64 levels of the text open at once
unfoldable pub reading : List (List ℕ) → List Token → Option Part
reading names ts = all_read (level_at fit (naming fit names) (inner fit (naming fit names) MAX_LEVELS) Whole ts)

-- what reading all the tokens answers, unless memory ran out
abbrev pub Answers : Result Expr ExprError → Option Part → Type 0
Answers (Ok e) read = read ≡ Some (Some (tree_of e))
Answers (Err errors.TooLarge) read = read ≡ Some None
Answers (Err errors.Bad) read = read ≡ None
Answers (Err errors.OutOfMemory) read = Unit {0}

-- why no expression was read
abbrev pub error_of : ReadError → ExprError
error_of Memory = errors.OutOfMemory
error_of Bad = errors.Bad
