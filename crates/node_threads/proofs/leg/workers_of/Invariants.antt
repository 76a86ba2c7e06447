use Rattle.std.proofs.Common.{◌≡◌, map}
use Rattle.node_threads.proofs.leg.workers_of.Given as goal

abbrev pub invariant-loop-worker : goal.invariant-loop-worker
invariant-loop-worker l = l.workers.items ≡ map (λ d. d.worker) l.yielded
