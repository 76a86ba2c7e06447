-- A tree that is kept has parts that are kept.
use Rattle.std.proofs.Common.{◌≡◌, ℕ, ◌≤◌, Bool, true, false, cond, Some, None, refl, ◌∙◌, arith}
use Rattle.std.specs.Prelude.{nat_le, ◌&&◌}
use Rattle.std.proofs.lemmas.Bool.Decides.{nat_tests}
use Rattle.svc_expr.specs.declared.expr.Op.{Op}
use Rattle.svc_expr.specs.declared.level.Form.{Form}
use Rattle.svc_expr.specs.declared.level.Form.TheVariants as form
use Rattle.svc_expr.specs.Tree.{Tree, pair, choice, nodes, depth}
use Rattle.svc_expr.specs.Types.{name_count}
use Rattle.svc_expr.specs.Grammar.{formed}
use Rattle.svc_expr.specs.Reading.{Part, formed_part, pair_part, choice_part}
use Rattle.svc_expr.specs.SizedExpr.{fit}

abbrev small : ℕ → ℕ → ℕ → Bool
small n m l = nat_le n 128 && nat_le m 32 && nat_le l 256

below : (n m l n' m' l' : ℕ) → n ≤ n' → m ≤ m' → l ≤ l' → small n' m' l' ≡ true → small n m l ≡ true
below n m l n' m' l' f g h e = grind (arith, nat_tests)

none_of : (r p : Bool) (c : Tree) → p ≡ false → (r ≡ true → p ≡ true) → None ≡ cond r (Some c) None
none_of false p c e h = refl
none_of true p c e h = absurd (cc (h refl))

one : (f : Part → Part) (p r : Bool) (a c : Tree) → (r ≡ true → p ≡ true) → f None ≡ None → f (Some a) ≡ cond r (Some c) None → f (cond p (Some a) None) ≡ cond r (Some c) None
one f true r a c h g e = e
one f false r a c h g e = g ∙ none_of r false c refl h

-- a part of a tree that is no larger
part : (f : Part → Part) (a c : Tree) → nodes a ≤ nodes c → depth a ≤ depth c → name_count a ≤ name_count c → f None ≡ None → f (Some a) ≡ fit c → f (fit a) ≡ fit c
unfolding fit
part f a c h g k e i = one f (small (nodes a) (depth a) (name_count a)) (small (nodes c) (depth c) (name_count c)) a c (below (nodes a) (depth a) (name_count a) (nodes c) (depth c) (name_count c) h g k) e i

-- a tree is kept only where its parts are
pub record Keeps (keep : Tree → Part) : Type 0 where
  pub formed : (f : Form) (a : Tree) → formed_part keep f (keep a) ≡ keep (formed f a)
  pub pair : (op : Op) (a b : Tree) → pair_part keep op (keep a) (keep b) ≡ keep (pair op a b)
  pub choice : (c a b : Tree) → choice_part keep (keep c) (keep a) (keep b) ≡ keep (choice c a b)

pub keeps_all : Keeps Some
keeps_all = record { formed = λ _ _. refl; pair = λ _ _ _. refl; choice = λ _ _ _. refl }

formed_nodes : (f : Form) (a : Tree) → nodes a ≤ nodes (formed f a)
formed_nodes form.Neg a = omega arith
formed_nodes form.Not a = omega arith
formed_nodes form.Len a = omega arith
formed_nodes form.Number a = omega arith
formed_nodes form.TextOf a = omega arith

formed_depth : (f : Form) (a : Tree) → depth a ≤ depth (formed f a)
formed_depth form.Neg a = omega arith
formed_depth form.Not a = omega arith
formed_depth form.Len a = omega arith
formed_depth form.Number a = omega arith
formed_depth form.TextOf a = omega arith

formed_names : (f : Form) (a : Tree) → name_count a ≤ name_count (formed f a)
formed_names form.Neg a = omega arith
formed_names form.Not a = omega arith
formed_names form.Len a = omega arith
formed_names form.Number a = omega arith
formed_names form.TextOf a = omega arith

formed_fits : (f : Form) (a : Tree) → formed_part fit f (fit a) ≡ fit (formed f a)
formed_fits f a = part (formed_part fit f) a (formed f a) (formed_nodes f a) (formed_depth f a) (formed_names f a) refl refl

pair_fits : (op : Op) (a b : Tree) → pair_part fit op (fit a) (fit b) ≡ fit (pair op a b)
pair_fits op a b =
    part (λ x. pair_part fit op x (fit b)) a (pair op a b) (omega arith) (omega arith) (omega arith) refl
    (part (pair_part fit op (Some a)) b (pair op a b) (omega arith) (omega arith) (omega arith) refl refl)

choice_fits : (c a b : Tree) → choice_part fit (fit c) (fit a) (fit b) ≡ fit (choice c a b)
choice_fits c a b =
    part (λ x. choice_part fit x (fit a) (fit b)) c (choice c a b) (omega arith) (omega arith) (omega arith) refl
    (part (λ x. choice_part fit (Some c) x (fit b)) a (choice c a b) (omega arith) (omega arith) (omega arith) refl
    (part (choice_part fit (Some c) (Some a)) b (choice c a b) (omega arith) (omega arith) (omega arith) refl refl))

pub keeps_small : Keeps fit
keeps_small = record { formed = formed_fits; pair = pair_fits; choice = choice_fits }
