use Rattle.settle_core.proofs.GoingLemmas.{goes_on_trans}
use Rattle.node_threads.proofs.polling.take_each.Goals as goal

pub returns-in_err-take_from : goal.returns-in_err-take_from
returns-in_err-take_from c = goes_on_trans c.args.worker.now c.loop-place.worker c.take_from.new.self c.loop-place.invariant c.take_from.ensures.goes_on

pub loop-place-preserved : goal.loop-place-preserved
loop-place-preserved c = goes_on_trans c.args.worker.now c.loop-place.worker c.take_from.new.self c.loop-place.invariant c.take_from.ensures.goes_on
