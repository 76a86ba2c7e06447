use Rattle.std.proofs.Common.{◌++◌, ◌∙◌, sym, length}
use Rattle.std.proofs.lemmas.Result.{err_from_is_err_and}
use Rattle.svc_expr.specs.Canonical.{canonical_text}
use Rattle.svc_expr.specs.Tree.{tree_of}
use Rattle.saved_state.proofs.ReadingLemmas.{behind_text, formula_parts}
use Rattle.saved_state.proofs.expressions.formula.Goals as goal

pub returns-in_err-reading-clause-reads : goal.returns-in_err-reading-clause-reads
returns-in_err-reading-clause-reads c formula more h fits is =
    let p = err_from_is_err_and c.from_residual-in_err-reading.result c.from_residual-in_err-reading.ensures.1 in
    let text = canonical_text formula.names (tree_of formula.expr) in
    let len = c.in_ok-len.ensures (length text) (text ++ behind_text formula more) fits.text (is ∙ formula_parts formula more) in
    let split = c.in_ok-text.ensures text (behind_text formula more) (sym len.0) len.1 in
    rw (p.1, p.2) (c.in_err-reading.ensures.reads (record { expr = formula.expr; names = formula.names }) h fits.tree split.0)

pub returns-in_err-members-clause-reads : goal.returns-in_err-members-clause-reads
returns-in_err-members-clause-reads c formula more h fits is =
    let p = err_from_is_err_and c.from_residual-in_err-members.result c.from_residual-in_err-members.ensures.1 in
    let text = canonical_text formula.names (tree_of formula.expr) in
    let len = c.in_ok-len.ensures (length text) (text ++ behind_text formula more) fits.text (is ∙ formula_parts formula more) in
    let split = c.in_ok-text.ensures text (behind_text formula more) (sym len.0) len.1 in
    rw (p.1, p.2) (c.in_err-members.ensures formula.members more fits.few fits.members split.1)

pub returns-clause-reads : goal.returns-clause-reads
returns-clause-reads c formula more h fits is =
    let text = canonical_text formula.names (tree_of formula.expr) in
    let len = c.in_ok-len.ensures (length text) (text ++ behind_text formula more) fits.text (is ∙ formula_parts formula more) in
    let split = c.in_ok-text.ensures text (behind_text formula more) (sym len.0) len.1 in
    let reading = c.in_ok-reading.ensures.reads (record { expr = formula.expr; names = formula.names }) h fits.tree split.0 in
    let members = c.in_ok-members.ensures formula.members more fits.few fits.members split.1 in
    ((λ i. record { expr = (reading i).expr; names = (reading i).names; members = members.0 i }), members.1)
