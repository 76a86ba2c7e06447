use Rattle.std.proofs.Common.{◌≡◌, ◌++◌, length, map}
use Rattle.settle_core.proofs.parting.workers_of.Given as goal

abbrev pub invariant-loop-wired : goal.invariant-loop-wired
invariant-loop-wired l =
    (map (λ worker. worker.wired) l.workers.items ≡ l.yielded) × (l.number ≡ length l.yielded) × (l.fn.all.items ≡ l.yielded ++ l.wired-iterator.rest.items)
    × (goal.iterator-loop-wired).can_next l.wired-iterator × (goal.iterator-loop-wired).is_finite l.wired-iterator
