use Rattle.std.proofs.Common.{◌≡◌, take}
use Rattle.document_reading.specs.Present.{bare_rows}
use Rattle.document_reading.proofs.present.declare_all.Given as goal

abbrev pub invariant-loop-number : goal.invariant-loop-number
invariant-loop-number l = l.copy ≡ bare_rows (take l.number l.book)
