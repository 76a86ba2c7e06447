use Rattle.std.proofs.Common.{◌≡◌, ◌≤◌, ◌-◌, length}
use Rattle.trace_text.specs.Reading.{family_entries}
use Rattle.trace_text.proofs.reading.logs.grow.Given as goal

abbrev pub invariant-loop-alloc : goal.invariant-loop-alloc
invariant-loop-alloc l = (length l.logs.items ≤ l.count) × (family_entries 0 l.logs.items ≡ family_entries 0 l.fn.logs.items)

abbrev pub decreases-loop-alloc : goal.decreases-loop-alloc
decreases-loop-alloc l = l.count - length l.logs.items
