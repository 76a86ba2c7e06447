use Rattle.std.proofs.Common.{subst, List, ℕ, IfOk, IfErr}
use Rattle.std.proofs.lemmas.Result.{IfOk-weaker, IfErr-weaker}
use Rattle.svc_value.specs.Literal.{IsLiteral, IsSomeLiteral, IsRefused}
use Rattle.svc_value.specs.Reading.{BeginsWith}
use Rattle.svc_value.proofs.LiteralReads.{literal_text, literal_text_err, literal_number, literal_number_err}
use Rattle.svc_value.proofs.literal.read_literal.Goals as goal

pub returns-then-begins_with-clause-ok : goal.returns-then-begins_with-clause-ok
returns-then-begins_with-clause-ok c = IfOk-weaker c.read_text.result _ _ (λ v h. literal_text c.args.text.now v h) c.read_text.ensures.ok

pub returns-then-begins_with-clause-bad : goal.returns-then-begins_with-clause-bad
returns-then-begins_with-clause-bad c =
    IfErr-weaker c.read_text.result _ _
    (λ why h. literal_text_err c.args.text.now why (subst (λ (bs : List ℕ). BeginsWith bs 34) c.as_bytes-bytes.ensures.value c.if-begins_with.ensures.begins) h) c.read_text.ensures.bad

pub returns-else-begins_with-clause-ok : goal.returns-else-begins_with-clause-ok
returns-else-begins_with-clause-ok c =
    subst (λ (bs : List ℕ). IfOk c.read_number.result (IsLiteral bs)) c.as_bytes-bytes.ensures.value (literal_number c.as_bytes-bytes.result.now c.read_number.result c.read_number.ensures)

pub returns-else-begins_with-clause-bad : goal.returns-else-begins_with-clause-bad
returns-else-begins_with-clause-bad c =
    subst (λ (bs : List ℕ). IfErr c.read_number.result (IsRefused IsSomeLiteral bs)) c.as_bytes-bytes.ensures.value
    (literal_number_err c.as_bytes-bytes.result.now c.read_number.result c.if-begins_with.ensures.begins c.read_number.ensures)
