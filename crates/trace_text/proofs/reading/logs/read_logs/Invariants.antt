use Rattle.std.proofs.Common.{length}
use Rattle.trace_text.specs.Naming.{naming_of}
use Rattle.trace_text.proofs.FamilyReading.{StandsAt}
use Rattle.trace_text.proofs.reading.logs.read_logs.Given as goal

abbrev pub invariant-loop-rest : goal.invariant-loop-rest
invariant-loop-rest l = StandsAt (naming_of l.names) (length l.names) l.bytes l.rest l.line l.logs.items

abbrev pub decreases-loop-rest : goal.decreases-loop-rest
decreases-loop-rest l = length l.rest
