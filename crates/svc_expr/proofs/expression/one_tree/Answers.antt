use Rattle.svc_expr.proofs.TreeLaws.{one_tree}
use Rattle.svc_expr.proofs.expression.one_tree.Goals as goal

pub returns : goal.returns
returns c = one_tree
