use Rattle.std.proofs.Common.{◌∙◌, List, ℕ, All, ap, sym, subst}
use Rattle.svc_expr.specs.Canonical.{IsInOrder}
use Rattle.svc_expr.specs.Tree.{tree_of}
use Rattle.svc_expr.proofs.WithinLimits.{spelled_within}
use Rattle.svc_token.specs.Word.{IsName}
use Rattle.saved_state.specs.States.{names_at, names_in}
use Rattle.saved_state.proofs.writing.text_of.Goals as goal

pub returns-clause-within : goal.returns-clause-within
returns-clause-within c =
    let e = c.in_ok-names.ensures ∙ ap (names_at (names_in c.args.services.now)) c.as_slice.ensures in
    let read = c.in_ok-print_expr.ensures.again (subst (All IsName) (sym e) c.requires.are_names)
    (subst (λ (names : List (List ℕ)). IsInOrder names (tree_of c.args.formula.now.expr)) (sym e) c.requires.order) c.requires.written.small in
    spelled_within read.2.1
