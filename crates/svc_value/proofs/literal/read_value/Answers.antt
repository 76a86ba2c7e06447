use Rattle.std.proofs.Common.{subst, List, ℕ, IfOk, IfErr}
use Rattle.std.proofs.lemmas.Result.{IfOk-weaker, IfErr-weaker}
use Rattle.svc_value.specs.Literal.{IsPrinted, IsSomePrinted, IsRefused}
use Rattle.svc_value.specs.Reading.{BeginsWith}
use Rattle.svc_value.proofs.LiteralReads.{printed_text, printed_text_err, printed_number, printed_number_err}
use Rattle.svc_value.proofs.literal.read_value.Goals as goal

pub returns-then-begins_with-clause-ok : goal.returns-then-begins_with-clause-ok
returns-then-begins_with-clause-ok c = IfOk-weaker c.read_text.result _ _ (λ v h. printed_text c.args.text.now v h) c.read_text.ensures.ok

pub returns-then-begins_with-clause-bad : goal.returns-then-begins_with-clause-bad
returns-then-begins_with-clause-bad c =
    IfErr-weaker c.read_text.result _ _
    (λ why h. printed_text_err c.args.text.now why (subst (λ (bs : List ℕ). BeginsWith bs 34) c.as_bytes-bytes.ensures.value c.if-begins_with.ensures.begins) h) c.read_text.ensures.bad

pub returns-else-begins_with-2-clause-ok : goal.returns-else-begins_with-2-clause-ok
returns-else-begins_with-2-clause-ok c =
    subst (λ (bs : List ℕ). IfOk c.read_number.result (IsPrinted bs)) c.as_bytes-bytes.ensures.value (printed_number c.as_bytes-bytes.result.now c.read_number.result c.read_number.ensures)

pub returns-else-begins_with-2-clause-bad : goal.returns-else-begins_with-2-clause-bad
returns-else-begins_with-2-clause-bad c =
    subst (λ (bs : List ℕ). IfErr c.read_number.result (IsRefused IsSomePrinted bs)) c.as_bytes-bytes.ensures.value
    (printed_number_err c.as_bytes-bytes.result.now c.read_number.result c.if-begins_with.ensures.begins c.if-begins_with-2.ensures.begins c.read_number.ensures)
