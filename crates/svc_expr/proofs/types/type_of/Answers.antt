use Rattle.std.proofs.Common.{subst, sym}
use Rattle.std.proofs.lemmas.Result.{err_from_is_err_and}
use Rattle.svc_expr.specs.Tree.{tree_of}
use Rattle.svc_expr.proofs.TypeLemmas.{Agrees, typed_agrees}
use Rattle.svc_expr.proofs.types.type_of.Goals as goal

pub returns-in_err-ty-clause-first_error : goal.returns-in_err-ty-clause-first_error
returns-in_err-ty-clause-first_error c =
    let p = err_from_is_err_and c.from_residual.result c.from_residual.ensures.1 in
    rw (p.1, p.2) (subst (Agrees c.args.given.now 0 (tree_of c.args.expr.now)) (sym c.in_err-ty.ensures.typing) (typed_agrees c.args.given.now 0 (tree_of c.args.expr.now))).1

pub returns-clause-has_type : goal.returns-clause-has_type
returns-clause-has_type c = (subst (Agrees c.args.given.now 0 (tree_of c.args.expr.now)) (sym c.in_ok-ty.ensures.typing) (typed_agrees c.args.given.now 0 (tree_of c.args.expr.now))).0

pub returns-clause-no_error : goal.returns-clause-no_error
returns-clause-no_error c = (subst (Agrees c.args.given.now 0 (tree_of c.args.expr.now)) (sym c.in_ok-ty.ensures.typing) (typed_agrees c.args.given.now 0 (tree_of c.args.expr.now))).2
