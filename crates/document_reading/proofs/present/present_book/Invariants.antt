use Rattle.std.proofs.Common.{◌≡◌}
use Rattle.document_reading.specs.Present.{half_present}
use Rattle.document_reading.proofs.present.present_book.Given as goal

abbrev pub invariant-loop-number : goal.invariant-loop-number
invariant-loop-number l = l.copy ≡ half_present l.number l.book
