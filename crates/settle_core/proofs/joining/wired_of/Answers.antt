use Rattle.settle_core.proofs.JoinLemmas.{wired_more}
use Rattle.settle_core.proofs.joining.wired_of.Goals as goal

pub loop-worker-preserved : goal.loop-worker-preserved
loop-worker-preserved c = wired_more c.loop-worker.yielded c.in-Some.worker c.loop-worker.all.items c.push.new.self.items c.loop-worker.invariant c.in_ok-push.ensures.items
