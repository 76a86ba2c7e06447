use Rattle.std.proofs.Common.{take}
use Rattle.settle_core.proofs.BeginLemmas.{Handed}
use Rattle.settle_core.proofs.opening.add_changes.Given as goal

abbrev pub invariant-loop-next : goal.invariant-loop-next
invariant-loop-next l = Handed l.fn.all.items (take l.next-index l.changes) l.all.items
