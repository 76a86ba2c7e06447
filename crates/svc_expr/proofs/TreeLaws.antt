-- An expression is known by its tree.
use Rattle.std.proofs.Common.{◌≡◌, refl, sym, ap, subst, ◌∙◌}
use Rattle.svc_expr.specs.declared.expr.Expr.{Expr}
use Rattle.svc_expr.specs.declared.expr.ExprKind.{ExprKind}
use Rattle.svc_expr.specs.declared.expr.ExprKind.TheFolds.{ind-Expr, fold-ExprKind, fold-roll-ExprKind, fold-roll-Expr, map-ExprKind}
use Rattle.svc_expr.specs.declared.expr.ExprKind.TheViews.{roll-ExprKind, roll-Expr}
use Rattle.svc_expr.specs.declared.expr.ExprKind.TheOpen.{ExprKind-F, Expr-F}
use Rattle.svc_expr.specs.Tree.{Tree, tree_of, tree_step, number, words, given, negated, denied, pair, choice, len_of, number_of, text_of, sum_of_members, count_of_members, least_member, greatest_member}

-- what stands at the root of an expression with this tree
abbrev kind_of : Tree → ExprKind
kind_of (number z) = roll-ExprKind (ExprKind-F.Int z)
kind_of (words text) = roll-ExprKind (ExprKind-F.Words text)
kind_of (given k) = roll-ExprKind (ExprKind-F.Given k)
kind_of (negated a) = roll-ExprKind (ExprKind-F.Neg (record { kind = kind_of a }))
kind_of (denied a) = roll-ExprKind (ExprKind-F.Not (record { kind = kind_of a }))
kind_of (pair op a b) = roll-ExprKind (ExprKind-F.Pair op (record { kind = kind_of a }) (record { kind = kind_of b }))
kind_of (choice c a b) = roll-ExprKind (ExprKind-F.If (record { kind = kind_of c }) (record { kind = kind_of a }) (record { kind = kind_of b }))
kind_of (len_of a) = roll-ExprKind (ExprKind-F.Len (record { kind = kind_of a }))
kind_of (number_of a) = roll-ExprKind (ExprKind-F.Number (record { kind = kind_of a }))
kind_of (text_of a) = roll-ExprKind (ExprKind-F.TextOf (record { kind = kind_of a }))
kind_of sum_of_members = roll-ExprKind ExprKind-F.Sum
kind_of count_of_members = roll-ExprKind ExprKind-F.Count
kind_of least_member = roll-ExprKind ExprKind-F.Min
kind_of greatest_member = roll-ExprKind ExprKind-F.Max

abbrev expr_of : Tree → Expr
expr_of tree = record { kind = kind_of tree }

-- the tree of what stands at a root
abbrev kind_tree : ExprKind → Tree
kind_tree = fold-ExprKind Tree Tree tree_step (λ e. e.kind)

abbrev IsKindBack : ExprKind → Type 0
IsKindBack kind = kind_of (kind_tree kind) ≡ kind

abbrev IsBack : Expr → Type 0
IsBack expr = expr_of (tree_of expr) ≡ expr

-- one level: where the parts are back, so is the whole
module _ (K E : Type 0) (k : K → ExprKind) (e : E → Expr) (h : (x : E) → IsBack (e x)) where
  layer : (y : ExprKind-F K E) → kind_of (tree_step (map-ExprKind ExprKind Expr Tree Tree kind_tree tree_of (map-ExprKind K E ExprKind Expr k e y))) ≡ roll-ExprKind (map-ExprKind K E ExprKind Expr k e y)
  layer (ExprKind-F.Int z) = refl
  layer (ExprKind-F.Words text) = refl
  layer (ExprKind-F.Given place) = refl
  layer (ExprKind-F.Neg a) = ap (λ (x : Expr). roll-ExprKind (ExprKind-F.Neg x)) (h a)
  layer (ExprKind-F.Not a) = ap (λ (x : Expr). roll-ExprKind (ExprKind-F.Not x)) (h a)
  layer (ExprKind-F.Pair op a b) = λ i. roll-ExprKind (ExprKind-F.Pair op (h a i) (h b i))
  layer (ExprKind-F.If c a b) = λ i. roll-ExprKind (ExprKind-F.If (h c i) (h a i) (h b i))
  layer (ExprKind-F.Len a) = ap (λ (x : Expr). roll-ExprKind (ExprKind-F.Len x)) (h a)
  layer (ExprKind-F.Number a) = ap (λ (x : Expr). roll-ExprKind (ExprKind-F.Number x)) (h a)
  layer (ExprKind-F.TextOf a) = ap (λ (x : Expr). roll-ExprKind (ExprKind-F.TextOf x)) (h a)
  layer ExprKind-F.Sum = refl
  layer ExprKind-F.Count = refl
  layer ExprKind-F.Min = refl
  layer ExprKind-F.Max = refl

  kind_back : (y : ExprKind-F K E) → IsKindBack (roll-ExprKind (map-ExprKind K E ExprKind Expr k e y))
  kind_back y = ap kind_of (fold-roll-ExprKind Tree Tree tree_step (λ x. x.kind) (map-ExprKind K E ExprKind Expr k e y)) ∙ layer y

expr_back : (x : Expr-F ExprKind Expr) → IsKindBack x.kind → IsBack (roll-Expr x)
expr_back x h = ap expr_of (fold-roll-Expr Tree Tree tree_step (λ e. e.kind) x) ∙ ap (λ (kind : ExprKind). record { kind = kind }) h

back : (a : Expr) → IsBack a
back = ind-Expr IsKindBack IsBack
    (λ x y same. subst (λ w. IsKindBack (roll-ExprKind w)) same (kind_back _ _ (λ e. e.0) (λ e. e.0) (λ e. e.1) y))
    (λ x y same. expr_back x (subst (λ (w : Expr-F ExprKind Expr). IsKindBack w.kind) same y.kind.1))

pub one_tree : (a b : Expr) → tree_of a ≡ tree_of b → a ≡ b
one_tree a b same = sym (back a) ∙ ap expr_of same ∙ back b
