use Rattle.std.proofs.Common.{sym, ap}
use Rattle.svc_expr.specs.Tree.{tree_of}
use Rattle.svc_graph.proofs.Untyped.{untyped_where_found}
use Rattle.svc_graph.specs.Refusals.{is_type}
use Rattle.svc_graph.proofs.checks.has_type.Goals as goal

pub returns-in-Err : goal.returns-in-Err
returns-in-Err c =
    sym (ap (λ found. is_type found c.args.ty) (untyped_where_found c.args.types.now (tree_of c.args.expr.now) c.in-Err.field-0.node c.in-Err.ensures.first_error))
