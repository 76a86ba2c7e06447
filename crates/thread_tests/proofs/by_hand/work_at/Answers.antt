use Rattle.std.proofs.Common.{subst}
use Rattle.settle_core.specs.declared.worker.Worker.{Worker}
use Rattle.settle_core.specs.Workers.{GoesOn}
use Rattle.thread_tests.proofs.HandLemmas.{all_but}
use Rattle.thread_tests.proofs.by_hand.work_at.Goals as goal

pub returns : goal.returns
returns c =
    all_but c.args.workers.now.items c.args.place c.work.new.worker c.index_mut.result.now c.requires
    (subst (λ (old : Worker). GoesOn old c.work.new.worker) c.index_mut.ensures.value c.work.ensures.goes_on)
