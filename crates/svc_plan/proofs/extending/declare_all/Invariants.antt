use Rattle.svc_plan.proofs.Rewinding.{Declared}
use Rattle.svc_plan.proofs.extending.declare_all.Given as goal

abbrev pub invariant-loop-line : goal.invariant-loop-line
invariant-loop-line l = Declared l.fn.book l.lines l.book l.line-index
