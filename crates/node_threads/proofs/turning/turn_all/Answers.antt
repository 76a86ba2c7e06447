use Rattle.std.proofs.Common.{◌∙◌}
use Rattle.settle_core.proofs.GoingLemmas.{goes_on_trans}
use Rattle.node_threads.proofs.turning.turn_all.Goals as goal

pub returns-in_err-take_turn-clause-goes_on : goal.returns-in_err-take_turn-clause-goes_on
returns-in_err-take_turn-clause-goes_on g c = goes_on_trans c.args.worker.now c.loop.worker c.take_turn.new.worker c.loop.invariant.0 c.take_turn.ensures.goes_on

pub loop-preserved : goal.loop-preserved
loop-preserved g c = (goes_on_trans c.args.worker.now c.loop.worker c.take_turn.new.worker c.loop.invariant.0 c.take_turn.ensures.goes_on, c.take_turn.ensures.left ∙ c.loop.invariant.1)

pub returns-clause-goes_on : goal.returns-clause-goes_on
returns-clause-goes_on g c = goes_on_trans c.args.worker.now c.loop.worker c.take_turn.new.worker c.loop.invariant.0 c.take_turn.ensures.goes_on
