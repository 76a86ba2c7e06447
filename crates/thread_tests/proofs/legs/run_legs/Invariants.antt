use Rattle.std.proofs.Common.{◌≡◌, true, drop}
use Rattle.settle_core.specs.Quiet.{is_quiet}
use Rattle.svc_plan.specs.Rows.{AreLegsAfter}
use Rattle.thread_tests.proofs.legs.run_legs.Given as goal

abbrev pub invariant-loop-leg : goal.invariant-loop-leg
invariant-loop-leg g l = (is_quiet l.network ≡ true) × AreLegsAfter l.network.rows (drop l.leg-index l.legs)
