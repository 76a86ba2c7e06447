use Rattle.std.proofs.Common.{◌≡◌, map}
use Rattle.settle_core.specs.Inside.Joining.{AllKept}
use Rattle.settle_core.proofs.joining.wired_of.Given as goal

abbrev pub invariant-loop-worker : goal.invariant-loop-worker
invariant-loop-worker l = (map (λ worker. worker.wired) l.yielded ≡ l.all.items) × AllKept l.all.items
