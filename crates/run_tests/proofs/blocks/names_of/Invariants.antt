use Rattle.run_tests.proofs.NameLemmas.{AreTaken}
use Rattle.run_tests.proofs.blocks.names_of.Given as goal

abbrev pub invariant-loop-number : goal.invariant-loop-number
invariant-loop-number l = AreTaken l.names l.book l.number
