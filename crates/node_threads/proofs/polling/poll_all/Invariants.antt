use Rattle.settle_core.specs.Workers.{GoesOn}
use Rattle.node_threads.proofs.polling.poll_all.Given as goal

abbrev pub invariant-loop : goal.invariant-loop
invariant-loop g l = GoesOn l.fn.worker l.worker
