use Rattle.thread_tests.proofs.LegLemmas.{next_leg, left_after}
use Rattle.thread_tests.proofs.legs.run_legs.Goals as goal

pub run-requires-clause-leg : goal.run-requires-clause-leg
run-requires-clause-leg g c κs within = next_leg c.loop-leg.network.rows c.args.legs.now c.loop-leg.leg-index c.leg-item.result c.loop-leg-test.true c.leg-item.is c.loop-leg.invariant.1

pub loop-leg-preserved : goal.loop-leg-preserved
loop-leg-preserved g c = (
  c.in_ok-run.ensures.quiet,
  left_after c.loop-leg.network.rows c.args.legs.now c.loop-leg.leg-index c.leg-item.result c.loop-leg-test.true c.leg-item.is c.loop-leg.invariant.1 c.run.new.network.rows c.in_ok-run.ensures.rows,
)
