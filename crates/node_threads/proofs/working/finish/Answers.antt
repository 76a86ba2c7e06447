use Rattle.settle_core.specs.Workers.{GoesOn}
use Rattle.settle_core.proofs.GoingLemmas.{goes_on_trans}
use Rattle.node_threads.proofs.working.finish.Goals as goal

pub returns-in_err-turn_all-clause-goes_on : goal.returns-in_err-turn_all-clause-goes_on
returns-in_err-turn_all-clause-goes_on g c = goes_on_trans c.args.worker.now c.do_all.new.worker c.turn_all.new.worker c.do_all.ensures.goes_on c.turn_all.ensures.goes_on

pub returns-clause-goes_on : goal.returns-clause-goes_on
returns-clause-goes_on g c =
    let turned : GoesOn c.args.worker.now c.turn_all.new.worker = goes_on_trans c.args.worker.now c.do_all.new.worker c.turn_all.new.worker c.do_all.ensures.goes_on c.turn_all.ensures.goes_on in
    goes_on_trans c.args.worker.now c.turn_all.new.worker c.hand_over.new.self turned c.hand_over.ensures.goes_on
