use Rattle.std.proofs.Common.{List, ℕ, Some, ap, ◌∙◌}
use Rattle.svc_expr.proofs.QuotedLemmas.{is_text, is_no_text}
use Rattle.svc_expr.proofs.quoting.text_of.Goals as goal

pub returns-in_ok-stored-in-Ok : goal.returns-in_ok-stored-in-Ok
returns-in_ok-stored-in-Ok c =
    let cases = c.in-Ok.ensures.cases in
    ap (λ (text : List ℕ). Some text) (c.in_ok-stored-in-Ok.ensures ∙ cases.0) ∙ is_text c.args.bytes.now c.requires cases.1

pub returns-in-Err : goal.returns-in-Err
returns-in-Err c = let cases = c.in-Err.ensures.cases in is_no_text c.args.bytes.now cases.0
