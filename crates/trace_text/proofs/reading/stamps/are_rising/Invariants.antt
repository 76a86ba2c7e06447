use Rattle.std.proofs.Common.{length}
use Rattle.propagation.specs.Stamps.{Rise}
use Rattle.trace_text.specs.Inside.Cutting.{key_list}
use Rattle.trace_text.proofs.reading.stamps.are_rising.Given as goal

abbrev pub invariant-loop-rest : goal.invariant-loop-rest
invariant-loop-rest l = (Rise 0 (key_list l.list) → Rise l.least (key_list l.rest)) × (Rise l.least (key_list l.rest) → Rise 0 (key_list l.list))

abbrev pub decreases-loop-rest : goal.decreases-loop-rest
decreases-loop-rest l = length l.rest
