use Rattle.thread_tests.proofs.LegLemmas.{next_leg, left_after}
use Rattle.thread_tests.proofs.legs.drain_legs.Goals as goal

pub drain-requires-clause-leg : goal.drain-requires-clause-leg
drain-requires-clause-leg c = next_leg c.loop-leg.network.rows c.args.legs.now c.loop-leg.leg-index c.leg-item.result c.loop-leg-test.true c.leg-item.is c.loop-leg.invariant.1

pub loop-leg-preserved : goal.loop-leg-preserved
loop-leg-preserved c = (
  c.in_ok-drain.ensures.quiet,
  left_after c.loop-leg.network.rows c.args.legs.now c.loop-leg.leg-index c.leg-item.result c.loop-leg-test.true c.leg-item.is c.loop-leg.invariant.1 c.drain.new.network.rows c.in_ok-drain.ensures.rows,
)
