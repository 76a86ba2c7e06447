use Rattle.std.proofs.Common.{ℕ, List, subst, sym, ◌∙◌}
use Rattle.svc_token.specs.declared.token.Token.{Token}
use Rattle.svc_token.specs.Cutting.{Cuts}
use Rattle.svc_token.proofs.CutLemmas.{one_cut}
use Rattle.svc_expr.specs.Grammar.{IsExpression}
use Rattle.svc_expr.proofs.expression.read_expr.Goals as goal

pub returns-in-Ok-clause-bad : goal.returns-in-Ok-clause-bad
returns-in-Ok-clause-bad c = λ h e names s.
    let cut : Cuts c.args.text.now c.cut.new.tokens.items = subst (λ (bytes : List ℕ). Cuts bytes c.cut.new.tokens.items) c.as_bytes.ensures.value c.in-Ok.ensures.found in
    c.read_tokens.ensures.bad h e names (subst (λ (ts : List Token). IsExpression ts e names) (one_cut c.args.text.now s.0 c.cut.new.tokens.items s.1 cut ∙ sym c.deref.ensures.value) s.2)
