use Rattle.svc_expr.proofs.Laws.{one_expression}
use Rattle.svc_expr.proofs.expression.one_expression.Goals as goal

pub returns : goal.returns
returns c = one_expression
