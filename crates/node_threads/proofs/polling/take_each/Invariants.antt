use Rattle.settle_core.specs.Workers.{GoesOn}
use Rattle.node_threads.proofs.polling.take_each.Given as goal

abbrev pub invariant-loop-place : goal.invariant-loop-place
invariant-loop-place l = GoesOn l.fn.worker l.worker
