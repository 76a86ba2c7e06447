use Rattle.svc_plan.proofs.Rewinding.{Accepted}
use Rattle.svc_plan.proofs.extending.apply_all.Given as goal

abbrev pub invariant-loop-next : goal.invariant-loop-next
invariant-loop-next l = Accepted l.fn.book l.changes l.book l.next-index
