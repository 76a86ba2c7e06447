use Rattle.svc_plan.proofs.Rewinding.{line_declared}
use Rattle.svc_plan.proofs.extending.declare_all.Goals as goal

pub loop-line-preserved : goal.loop-line-preserved
loop-line-preserved c =
    line_declared c.args.book.now c.args.lines.now c.loop-line.book c.loop-line.line-index c.line-item.result c.loop-line-test.true c.line-item.is c.loop-line.invariant c.declare.new.book c.in_ok-declare.ensures.ok
