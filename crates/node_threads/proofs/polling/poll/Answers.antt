use Rattle.settle_core.specs.Workers.{GoesOn}
use Rattle.settle_core.proofs.GoingLemmas.{goes_on_trans}
use Rattle.node_threads.proofs.polling.poll.Goals as goal

pub returns-in_err-is_done : goal.returns-in_err-is_done
returns-in_err-is_done g c = goes_on_trans c.args.worker.now c.take_each.new.worker c.do_next.new.self c.take_each.ensures c.do_next.ensures.goes_on

pub returns-in_err-is_busy : goal.returns-in_err-is_busy
returns-in_err-is_busy g c =
    let done : GoesOn c.args.worker.now c.do_next.new.self = goes_on_trans c.args.worker.now c.take_each.new.worker c.do_next.new.self c.take_each.ensures c.do_next.ensures.goes_on in
    goes_on_trans c.args.worker.now c.do_next.new.self c.take_turn.new.worker done c.take_turn.ensures.goes_on

pub returns : goal.returns
returns g c =
    let done : GoesOn c.args.worker.now c.do_next.new.self = goes_on_trans c.args.worker.now c.take_each.new.worker c.do_next.new.self c.take_each.ensures c.do_next.ensures.goes_on in
    let turned : GoesOn c.args.worker.now c.take_turn.new.worker = goes_on_trans c.args.worker.now c.do_next.new.self c.take_turn.new.worker done c.take_turn.ensures.goes_on in
    goes_on_trans c.args.worker.now c.take_turn.new.worker c.hand_over-is_handed_over.new.self turned c.hand_over-is_handed_over.ensures.goes_on
