-- An expression as plain data, and its size.
use Rattle.std.specs.Prelude.{ℕ, ◌+◌, ◌≤◌, max, ℤ, List}
use Rattle.svc_expr.specs.declared.expr.Op.{Op}
use Rattle.svc_expr.specs.declared.expr.Expr.{Expr, fold-Expr}
use Rattle.svc_expr.specs.declared.expr.ExprKind.TheOpen.{ExprKind-F}
use Rattle.svc_expr.specs.declared.sized_expr.TheConstants.{MAX_DEPTH, MAX_NODES}

-- an expression: each form with its operands
pub data Tree : Type 0 where
  number : ℤ → Tree
  words : List ℕ → Tree
  given : ℕ → Tree
  negated : Tree → Tree
  denied : Tree → Tree
  pair : Op → Tree → Tree → Tree
  choice : Tree → Tree → Tree → Tree
  len_of : Tree → Tree
  number_of : Tree → Tree
  text_of : Tree → Tree
  sum_of_members : Tree
  count_of_members : Tree
  least_member : Tree
  greatest_member : Tree

-- one form, whose operands are trees already
abbrev pub tree_step : ExprKind-F Tree Tree → Tree
tree_step (ExprKind-F.Int z) = number z
tree_step (ExprKind-F.Words bs) = words bs
tree_step (ExprKind-F.Given k) = given k
tree_step (ExprKind-F.Neg a) = negated a
tree_step (ExprKind-F.Not a) = denied a
tree_step (ExprKind-F.Pair op a b) = pair op a b
tree_step (ExprKind-F.If c a b) = choice c a b
tree_step (ExprKind-F.Len a) = len_of a
tree_step (ExprKind-F.Number a) = number_of a
tree_step (ExprKind-F.TextOf a) = text_of a
tree_step ExprKind-F.Sum = sum_of_members
tree_step ExprKind-F.Count = count_of_members
tree_step ExprKind-F.Min = least_member
tree_step ExprKind-F.Max = greatest_member

-- the tree of an expression
abbrev pub tree_of : Expr → Tree
tree_of = fold-Expr Tree Tree tree_step (λ expr. expr.kind)

-- how many nodes a tree has
abbrev pub nodes : Tree → ℕ
nodes (negated a) = nodes a + 1
nodes (denied a) = nodes a + 1
nodes (pair op a b) = nodes a + nodes b + 1
nodes (choice c a b) = nodes c + nodes a + nodes b + 1
nodes (len_of a) = nodes a + 1
nodes (number_of a) = nodes a + 1
nodes (text_of a) = nodes a + 1
nodes leaf = 1

-- how many nodes the longest way from the root to a leaf has
abbrev pub depth : Tree → ℕ
depth (negated a) = depth a + 1
depth (denied a) = depth a + 1
depth (pair op a b) = max (depth a) (depth b) + 1
depth (choice c a b) = max (max (depth c) (depth a)) (depth b) + 1
depth (len_of a) = depth a + 1
depth (number_of a) = depth a + 1
depth (text_of a) = depth a + 1
depth leaf = 1

-- at most 128 nodes, and a depth of at most 32
abbrev pub IsSmall : Tree → Type 0
IsSmall tree = (nodes tree ≤ MAX_NODES) × (depth tree ≤ MAX_DEPTH)
