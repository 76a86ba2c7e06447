use Rattle.settle_core.specs.Workers.{AllGoOn}
use Rattle.thread_tests.proofs.by_hand.work_in_order.Given as goal

abbrev pub invariant-loop-place : goal.invariant-loop-place
invariant-loop-place l = AllGoOn l.fn.workers.items l.workers.items
