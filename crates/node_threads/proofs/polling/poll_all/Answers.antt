use Rattle.settle_core.proofs.GoingLemmas.{goes_on_trans}
use Rattle.node_threads.proofs.polling.poll_all.Goals as goal

pub returns-in_err-poll : goal.returns-in_err-poll
returns-in_err-poll g c = goes_on_trans c.args.worker.now c.loop.worker c.poll.new.worker c.loop.invariant c.poll.ensures

pub loop-preserved : goal.loop-preserved
loop-preserved g c = goes_on_trans c.args.worker.now c.loop.worker c.poll.new.worker c.loop.invariant c.poll.ensures
