use Rattle.std.proofs.Common.{arith}
use Rattle.svc_value.proofs.ValueReads.{text_wrong}
use Rattle.svc_value.proofs.taken.take_text.Goals as goal

pub returns-in-Err-2-clause-bad : goal.returns-in-Err-2-clause-bad
returns-in-Err-2-clause-bad c =
    text_wrong c.args.rest.now c.in_ok-len.len c.in-Err.place c.in_ok-len.ensures.ok (omega (arith, c.type_inv.rest 1)) c.in-Err.ensures.place c.in-Err.ensures.no_text c.if-place-body.false
