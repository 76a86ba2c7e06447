use Rattle.std.proofs.Common.{ap, ◌∙◌}
use Rattle.svc_graph.specs.History.{rows_after_change}
use Rattle.svc_plan.proofs.Rewinding.{next_made}
use Rattle.svc_plan.proofs.extending.apply_all.Goals as goal

pub loop-next-preserved : goal.loop-next-preserved
loop-next-preserved c =
    next_made c.args.book.now c.args.changes.now c.loop-next.book c.loop-next.next-index c.next-item.result c.loop-next-test.true c.next-item.is c.loop-next.invariant c.apply.new.self
    (c.in_ok-apply.ensures.ok ∙ ap (rows_after_change c.loop-next.book c.next-item.result.id) c.in_ok-copy.ensures)
