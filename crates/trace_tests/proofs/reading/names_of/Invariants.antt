use Rattle.trace_tests.proofs.NameLemmas.{AreTaken}
use Rattle.trace_tests.proofs.reading.names_of.Given as goal

abbrev pub invariant-loop-number : goal.invariant-loop-number
invariant-loop-number l = AreTaken l.names l.book l.number
