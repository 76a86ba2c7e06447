use Rattle.settle_core.proofs.GoingLemmas.{goes_on_trans}
use Rattle.node_threads.proofs.working.do_all.Goals as goal

pub returns-in_err-do_next-clause-goes_on : goal.returns-in_err-do_next-clause-goes_on
returns-in_err-do_next-clause-goes_on c = goes_on_trans c.args.worker.now c.loop.worker c.do_next.new.self c.loop.invariant c.do_next.ensures.goes_on

pub loop-preserved : goal.loop-preserved
loop-preserved c = goes_on_trans c.args.worker.now c.loop.worker c.do_next.new.self c.loop.invariant c.do_next.ensures.goes_on

pub returns-clause-goes_on : goal.returns-clause-goes_on
returns-clause-goes_on c = goes_on_trans c.args.worker.now c.loop.worker c.do_next.new.self c.loop.invariant c.do_next.ensures.goes_on
