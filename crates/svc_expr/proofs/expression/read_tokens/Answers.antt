use Rattle.std.proofs.Common.{ℕ, List, Ok, Err, subst, ap}
use Rattle.svc_expr.specs.declared.errors.ExprError.{ExprError}
use Rattle.svc_expr.specs.declared.errors.ExprError.TheVariants.{Bad, TooLarge}
use Rattle.svc_expr.specs.Tree.{tree_of}
use Rattle.svc_expr.specs.SizedExpr.{reading, Answers}
use Rattle.svc_expr.proofs.Laws.{found_law, bad_law, large_law, error_is}
use Rattle.svc_expr.proofs.NamesRead.{names_counted, names_differ}
use Rattle.svc_expr.proofs.expression.read_tokens.Goals as goal

pub returns-in-Ok-read_all-clause-found : goal.returns-in-Ok-read_all-clause-found
returns-in-Ok-read_all-clause-found c =
    let h = subst (λ (l : List (List ℕ)). Answers (Ok c.in-Ok-read_all.expr) (reading l c.args.tokens.now)) c.as_slice.ensures c.in-Ok-read_all.ensures in
    found_law c.in-Ok.names c.args.tokens.now (Ok c.in-Ok-read_all.expr) c.in-Ok.ensures h

pub returns-in-Ok-read_all-clause-count : goal.returns-in-Ok-read_all-clause-count
returns-in-Ok-read_all-clause-count c =
    let h = subst (λ (l : List (List ℕ)). Answers (Ok c.in-Ok-read_all.expr) (reading l c.args.tokens.now)) c.as_slice.ensures c.in-Ok-read_all.ensures in
    let found = found_law c.in-Ok.names c.args.tokens.now (Ok c.in-Ok-read_all.expr) c.in-Ok.ensures h in
    names_counted c.args.tokens.now (tree_of c.in-Ok-read_all.expr) c.in-Ok.names found.0

pub returns-in-Ok-read_all-clause-differ : goal.returns-in-Ok-read_all-clause-differ
returns-in-Ok-read_all-clause-differ c =
    let h = subst (λ (l : List (List ℕ)). Answers (Ok c.in-Ok-read_all.expr) (reading l c.args.tokens.now)) c.as_slice.ensures c.in-Ok-read_all.ensures in
    let found = found_law c.in-Ok.names c.args.tokens.now (Ok c.in-Ok-read_all.expr) c.in-Ok.ensures h in
    names_differ c.args.tokens.now (tree_of c.in-Ok-read_all.expr) c.in-Ok.names found.0

pub returns-in-Err-read_all-clause-bad : goal.returns-in-Err-read_all-clause-bad
returns-in-Err-read_all-clause-bad c = λ b.
    let h = subst (λ (l : List (List ℕ)). Answers (Err c.in-Err-read_all.error) (reading l c.args.tokens.now)) c.as_slice.ensures c.in-Err-read_all.ensures in
    bad_law c.in-Ok.names c.args.tokens.now (Err c.in-Err-read_all.error) c.in-Ok.ensures h (ap (λ (e : ExprError). Err e) (error_is c.in-Err-read_all.error Bad b))

pub returns-in-Err-read_all-clause-large : goal.returns-in-Err-read_all-clause-large
returns-in-Err-read_all-clause-large c = λ b.
    let h = subst (λ (l : List (List ℕ)). Answers (Err c.in-Err-read_all.error) (reading l c.args.tokens.now)) c.as_slice.ensures c.in-Err-read_all.ensures in
    large_law c.in-Ok.names c.args.tokens.now (Err c.in-Err-read_all.error) c.in-Ok.ensures h (ap (λ (e : ExprError). Err e) (error_is c.in-Err-read_all.error TooLarge b))
