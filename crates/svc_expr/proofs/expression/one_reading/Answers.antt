use Rattle.std.proofs.Common.{List, subst}
use Rattle.svc_token.specs.declared.token.Token.{Token}
use Rattle.svc_token.proofs.CutLemmas.{one_cut}
use Rattle.svc_expr.specs.Grammar.{IsExpression}
use Rattle.svc_expr.proofs.Laws.{one_expression}
use Rattle.svc_expr.proofs.expression.one_reading.Goals as goal

pub returns : goal.returns
returns c = λ text a b n m s t. one_expression s.0 a b n m s.2 (subst (λ (ts : List Token). IsExpression ts b m) (one_cut text t.0 s.0 t.1 s.1) t.2)
