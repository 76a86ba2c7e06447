use Rattle.network_tests.proofs.LegLemmas.{next_leg, left_after}
use Rattle.network_tests.proofs.playing.play_legs.Goals as goal

pub play_leg-requires-clause-leg : goal.play_leg-requires-clause-leg
play_leg-requires-clause-leg g c = next_leg c.loop-leg.network.rows c.args.legs.now c.loop-leg.leg-index c.leg-item.result c.loop-leg-test.true c.leg-item.is c.loop-leg.invariant.1

pub loop-leg-preserved : goal.loop-leg-preserved
loop-leg-preserved g c = (
  c.in_ok-play_leg.ensures.quiet,
  left_after c.loop-leg.network.rows c.args.legs.now c.loop-leg.leg-index c.leg-item.result c.loop-leg-test.true c.leg-item.is c.loop-leg.invariant.1 c.play_leg.new.network.rows c.in_ok-play_leg.ensures.rows,
)
