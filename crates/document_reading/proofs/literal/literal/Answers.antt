use Rattle.std.proofs.Common.{refl, sym}
use Rattle.document_reading.proofs.LiteralLemmas.{number_sound, no_literal}
use Rattle.document_reading.proofs.literal.literal.Goals as goal

pub returns-in-Some-number : goal.returns-in-Some-number
returns-in-Some-number c = number_sound c.args.tokens.now c.in-Some-number.value (sym c.in-Some-number.ensures)

pub returns-in-None-number : goal.returns-in-None-number
returns-in-None-number c = (refl, no_literal c.args.tokens.now (sym c.in-None.ensures) (sym c.in-None-number.ensures))
