use Rattle.std.proofs.Common.{◌≡◌, ◌++◌, length}
use Rattle.settle_core.specs.Inside.Joining.{HandedBelow}
use Rattle.settle_core.specs.Inside.Working.{wired_nodes}
use Rattle.settle_core.proofs.joining.handed_nodes.Given as goal

abbrev pub invariant-loop-wired : goal.invariant-loop-wired
invariant-loop-wired l =
    HandedBelow l.number (wired_nodes l.fn.all.items) l.nodes.items l.fn.links.items l.links.items × (l.number ≡ length l.yielded) × (l.fn.all.items ≡ l.yielded ++ l.wired-iterator.rest.items)
    × (goal.iterator-loop-wired).can_next l.wired-iterator × (goal.iterator-loop-wired).is_finite l.wired-iterator
