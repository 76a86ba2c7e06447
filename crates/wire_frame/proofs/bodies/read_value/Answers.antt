use Rattle.std.proofs.Common.{sym, refl, subst, List, ℕ, drop}
use Rattle.std.proofs.lemmas.List.{take_rest}
use Rattle.wire_frame.specs.declared.reason.FrameReason.{FrameReason}
use Rattle.svc_value.specs.Taken.{IsBadValue}
use Rattle.wire_frame.specs.Parts.{IsWrong, value_part}
use Rattle.wire_frame.proofs.Valued.{value_wrong}
use Rattle.wire_frame.proofs.bodies.read_value.Goals as goal

pub returns-in-Err-Bad-clause-bad : goal.returns-in-Err-Bad-clause-bad
returns-in-Err-Bad-clause-bad c =
    let rest = drop c.args.at c.args.bytes.now in
    let bad : IsBadValue rest c.in-Err-Bad.place c.in-Err-Bad.reason =
    subst (λ (bs : List ℕ). IsBadValue bs c.in-Err-Bad.place c.in-Err-Bad.reason) (take_rest c.args.bytes.now c.args.at) (rw c.in-Err-Bad.field-0-is at c.in-Err-Bad.ensures.bad) in
    (c.in-Err-Bad.place, refl, subst (λ (why : FrameReason). IsWrong value_part rest c.in-Err-Bad.place why) (sym c.reason_of.ensures) (value_wrong rest c.in-Err-Bad.place c.in-Err-Bad.reason bad))
