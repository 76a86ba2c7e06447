use Rattle.propagation.specs.Stamps.{clock_of}
use Rattle.central_eval.proofs.Evaluating.{Progress}
use Rattle.central_eval.proofs.at.value_in.Given as goal

abbrev pub invariant-loop-reader : goal.invariant-loop-reader
invariant-loop-reader l = Progress l.book (clock_of l.stamps) l.reader-items l.reader-index l.values.items
