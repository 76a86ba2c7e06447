use Rattle.std.proofs.Common.{◌≡◌, drop}
use Rattle.document_reading.specs.Grammar.{is_silent}
use Rattle.document_reading.proofs.line.is_silent.Given as goal

abbrev pub invariant-loop-b : goal.invariant-loop-b
invariant-loop-b l = is_silent (drop l.b-index l.line) ≡ is_silent l.line
