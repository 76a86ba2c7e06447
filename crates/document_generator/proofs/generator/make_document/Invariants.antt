use Rattle.std.proofs.Common.{◌≡◌}
use Rattle.document_generator.specs.Generator.{after_inputs, after_derived, after_changes}
use Rattle.document_generator.proofs.generator.make_document.Given as goal

abbrev pub invariant-loop-k : goal.invariant-loop-k
invariant-loop-k l = l.draft ≡ after_inputs l.fn.start l.k

abbrev pub invariant-loop-n : goal.invariant-loop-n
invariant-loop-n l = l.draft ≡ after_derived l.fn.start l.inputs l.n

abbrev pub invariant-loop : goal.invariant-loop
invariant-loop l = l.draft ≡ after_changes l.fn.start l.services l.counter
