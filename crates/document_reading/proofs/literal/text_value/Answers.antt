use Rattle.std.proofs.Common.{refl, sym, subst, List, ℕ}
use Rattle.svc_value.specs.Literal.{IsLiteral as IsLiteralText, IsSomeLiteral}
use Rattle.svc_value.specs.declared.value.Value.TheVariants.{Words}
use Rattle.document_reading.specs.Grammar.{quoted}
use Rattle.document_reading.proofs.LiteralLemmas.{no_bytes, no_quoted}
use Rattle.document_reading.proofs.literal.text_value.Goals as goal

pub returns-in_default : goal.returns-in_default
returns-in_default c = (refl, no_bytes c.args.raw.now c.in_default.ensures.cases.0)

pub returns-in-Ok-Words : goal.returns-in-Ok-Words
returns-in-Ok-Words c =
    quoted (subst (λ (bytes : List ℕ). IsLiteralText bytes (Words c.in-Ok-Words.text)) c.in-Ok.ensures.cases.0 (rw c.in-Ok-Words.field-0-is at c.in-Ok-Words.ensures.ok))

pub returns-in-Err-Bad : goal.returns-in-Err-Bad
returns-in-Err-Bad c =
    let refused = rw c.in-Err-Bad.field-0-is at c.in-Err-Bad.ensures.bad in
    (refl, no_quoted c.args.raw.now (λ some. refused.none (subst IsSomeLiteral (sym c.in-Ok.ensures.cases.0) some)))
