use Rattle.settle_core.proofs.GoingLemmas.{goes_on_trans}
use Rattle.node_threads.proofs.working.work_through.Goals as goal

pub returns-clause-goes_on : goal.returns-clause-goes_on
returns-clause-goes_on g c = goes_on_trans c.args.worker.now c.poll_all.new.worker c.finish.new.worker c.poll_all.ensures c.finish.ensures.goes_on
