use Rattle.std.proofs.Common.{◌≡◌, ap, subst, ◌∙◌, inl, inr, List, ℕ, arith, length}
use Rattle.svc_value.specs.Prefix.{IsRefusedAt}
use Rattle.svc_value.specs.Printed.{fault_text}
use Rattle.svc_value.proofs.LiteralReads.{one_name}
use Rattle.svc_value.proofs.literal.read_name.Goals as goal
use Rattle.svc_value.proofs.literal.read_name.Goals.{then-common-bytes-via-then-common-bytes, then-common-bytes-via-else-common-bytes+then-common-text}

pub returns-then-common-bytes-clause-bad : goal.returns-then-common-bytes-clause-bad
returns-then-common-bytes-clause-bad c =
    let name : c.as_bytes-text.result.now ≡ fault_text c.args.fault = c.as_bytes-text.ensures.value ∙ c.fault_text.ensures in
    subst (λ (n : List ℕ). IsRefusedAt (λ (text : List ℕ). text ≡ n) c.args.bytes.now c.common_len-common.result) name
    (one_name c.args.bytes.now c.as_bytes-text.result.now c.common_len-common.result c.common_len-common.ensures.left c.common_len-common.ensures.right c.common_len-common.ensures.same c.common_len-common.ensures.differ
    (elim c.then-common-bytes.branch [
      | then-common-bytes-via-then-common-bytes w ↦ inl w.if-common-bytes.true
      | then-common-bytes-via-else-common-bytes+then-common-text w ↦ inr (omega (arith, w.if-common-text.true, ap length c.as_bytes-text.ensures.value))
    ]))
