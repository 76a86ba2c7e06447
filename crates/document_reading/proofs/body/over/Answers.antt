use Rattle.std.proofs.Common.{refl, sym, subst}
use Rattle.document_reading.specs.Grammar.{small, large, IsOver}
use Rattle.document_reading.proofs.body.over.Goals as goal

pub returns-in-Ok : goal.returns-in-Ok
returns-in-Ok c = subst (IsOver c.args.members c.args.tokens.now) (sym c.formula.ensures) (small c.in-Ok.ensures.found.0 c.in-Ok.ensures.found.1)

pub returns-in-Err-TooLarge : goal.returns-in-Err-TooLarge
returns-in-Err-TooLarge c =
    let e = rw c.in-Err-TooLarge.field-0-is at c.in-Err-TooLarge.ensures.large in
    let k = e refl in
    large k.2 k.3
