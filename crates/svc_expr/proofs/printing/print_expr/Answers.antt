use Rattle.svc_expr.specs.Tree.{tree_of}
use Rattle.svc_expr.proofs.Again.{read_again, on_ok}
use Rattle.svc_expr.proofs.printing.print_expr.Goals as goal

pub returns-else-is_err-clause-again : goal.returns-else-is_err-clause-again
returns-else-is_err-clause-again c =
    on_ok c.append-result.result _ _ (λ w are order small. read_again c.args.names.now (tree_of c.args.expr.now) are c.requires order w small) c.append-result.ensures.within
