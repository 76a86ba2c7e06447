use Rattle.std.proofs.Common.{◌≡◌, ◌++◌, length}
use Rattle.trace_text.specs.Entries.{AreBytes}
use Rattle.trace_text.specs.Lines.{hex}
use Rattle.trace_text.proofs.reading.frames.read_hex.Given as goal

abbrev pub invariant-loop-rest : goal.invariant-loop-rest
invariant-loop-rest l = AreBytes l.bytes.items × (hex l.bytes.items ++ l.rest ≡ l.digits)

abbrev pub decreases-loop-rest : goal.decreases-loop-rest
decreases-loop-rest l = length l.rest
