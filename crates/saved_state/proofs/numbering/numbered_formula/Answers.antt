use Rattle.std.proofs.Common.{◌∙◌, ◌<◌, All, Err, ap, length, sym, subst}
use Rattle.std.proofs.lemmas.Result.{err_from_is_err_and}
use Rattle.svc_expr.specs.Grammar.{name_index}
use Rattle.saved_state.specs.Named.{names_of}
use Rattle.saved_state.proofs.JudgingLemmas.{error_is}
use Rattle.saved_state.proofs.numbering.numbered_formula.Goals as goal

pub returns-in_err-fixed-clause-bad : goal.returns-in_err-fixed-clause-bad
returns-in_err-fixed-clause-bad c e known =
    let p = err_from_is_err_and c.from_residual.result c.from_residual.ensures.1 in
    c.in_err-fixed.ensures.bad (ap Err (sym p.2 ∙ error_is _ _ (sym p.1 ∙ e)))
    (subst (All (λ name. name_index (names_of c.args.rows.now) name < length (names_of c.args.rows.now))) (sym c.as_slice.ensures) known)

pub returns-clause-known : goal.returns-clause-known
returns-clause-known c = subst (All (λ name. name_index (names_of c.args.rows.now) name < length (names_of c.args.rows.now))) c.as_slice.ensures c.in_ok-fixed.ensures.known
