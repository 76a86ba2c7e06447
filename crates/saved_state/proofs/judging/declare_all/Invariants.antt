use Rattle.std.proofs.Common.{◌≡◌, take}
use Rattle.document_reading.specs.Present.{bare_rows}
use Rattle.saved_state.specs.States.{rows_of}
use Rattle.saved_state.proofs.judging.declare_all.Given as goal

abbrev pub invariant-loop-number : goal.invariant-loop-number
invariant-loop-number l = l.book ≡ bare_rows (take l.number (rows_of l.services))
