use Rattle.std.proofs.Common.{take}
use Rattle.trace_text.specs.Inside.Cutting.{Lacks}
use Rattle.trace_text.proofs.reading.cutting.cut_at_first.Given as goal

abbrev pub invariant-loop-at : goal.invariant-loop-at
invariant-loop-at l = Lacks l.stop (take l.at l.bytes)
