use Rattle.std.proofs.Common.{◌≡◌}
use Rattle.document_reading.specs.Present.{half_present}
use Rattle.saved_state.specs.States.{rows_of}
use Rattle.saved_state.proofs.judging.judge.Given as goal

abbrev pub invariant-loop-number : goal.invariant-loop-number
invariant-loop-number l = l.book ≡ half_present l.number (rows_of l.services)
