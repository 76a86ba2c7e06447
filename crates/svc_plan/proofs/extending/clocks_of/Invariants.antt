use Rattle.std.proofs.Common.{◌≡◌, length}
use Rattle.svc_plan.proofs.Rewinding.{AreClocks}
use Rattle.svc_plan.proofs.extending.clocks_of.Given as goal

abbrev pub invariant-loop-number : goal.invariant-loop-number
invariant-loop-number l = AreClocks l.book l.number l.clocks × (length l.clocks ≡ 64)
