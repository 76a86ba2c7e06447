use Rattle.std.proofs.Common.{◌≡◌, length}
use Rattle.document_reading.specs.Parser.{state}
use Rattle.document_reading.proofs.TakingLemmas.{ReadSoFar}
use Rattle.document_reading.proofs.document.read_lines.Given as goal

abbrev pub invariant-loop-rest : goal.invariant-loop-rest
invariant-loop-rest l = ReadSoFar l.fn.parser.mode (state l.fn.parser) l.bytes l.rest l.count (state l.parser) × (l.parser.mode ≡ l.fn.parser.mode)

abbrev pub decreases-loop-rest : goal.decreases-loop-rest
decreases-loop-rest l = length l.rest
