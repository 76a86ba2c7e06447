use Rattle.std.proofs.Common.{length}
use Rattle.settle_core.specs.Workers.{node_of, GoesOn}
use Rattle.node_threads.proofs.working.do_all.Given as goal

abbrev pub invariant-loop : goal.invariant-loop
invariant-loop l = GoesOn l.fn.worker l.worker

abbrev pub decreases-loop : goal.decreases-loop
decreases-loop l = length (node_of l.worker).state.left
