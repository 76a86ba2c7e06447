use Rattle.std.proofs.Common.{◌≤◌, drop, length}
use Rattle.trace_text.specs.Inside.Cutting.{Lacks}
use Rattle.trace_text.proofs.reading.cutting.cut_at_last.Given as goal

abbrev pub invariant-loop-at : goal.invariant-loop-at
invariant-loop-at l = (l.at ≤ length l.bytes) × Lacks l.stop (drop l.at l.bytes)

abbrev pub decreases-loop-at : goal.decreases-loop-at
decreases-loop-at l = l.at
