use Rattle.svc_expr.proofs.Again.{read_again}
use Rattle.svc_expr.proofs.printing.read_again.Goals as goal

pub returns : goal.returns
returns c = read_again
