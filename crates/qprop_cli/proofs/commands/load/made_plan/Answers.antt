use Rattle.std.proofs.Common.{List, ℕ, subst, sym, ◌∙◌}
use Rattle.document_reading.specs.Document.{IsAccepted}
use Rattle.svc_plan.specs.declared.plan.Mode.TheVariants.{Plain}
use Rattle.qprop_cli.proofs.commands.load.made_plan.Goals as goal

-- the document that is made is accepted
pub unreachable-requires : goal.unreachable-requires
unreachable-requires c =
    let size = c.args.size in
    let accepted = c.made_is_accepted.ensures size.services size.changes size.start c.requires.some c.requires.most c.requires.births c.requires.changes in
    let P : List ℕ → Type 0 = λ bytes. IsAccepted Plain bytes in
    c.in-Err-Refused.ensures.not_accepted c.in-Err-Refused.field-0-0 c.in-Err-Refused.field-0-is (subst P (sym (c.deref.ensures.value ∙ c.in_ok-text.ensures)) accepted)
