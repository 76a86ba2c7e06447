use Rattle.std.proofs.Common.{◌∙◌, arith}
use Rattle.document_reading.proofs.PresentLemmas.{half_all}
use Rattle.document_reading.proofs.present.present_book.Goals as goal

pub returns : goal.returns
returns c = c.loop-number.invariant ∙ half_all c.args.book.now c.loop-number.number (omega (arith, c.loop-number-test.false, c.loop-number.auto.number-end, c.len-number-end.ensures.len))
