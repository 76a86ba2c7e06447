use Rattle.settle_core.proofs.GoingLemmas.{goes_on_trans}
use Rattle.settle_core.proofs.worker.Worker.take_from.Goals as goal

pub returns : goal.returns
returns c = record { goes_on = goes_on_trans c.args.self.now c.receive.new.self c.take_held.new.self c.receive.ensures.goes_on c.take_held.ensures.goes_on }
