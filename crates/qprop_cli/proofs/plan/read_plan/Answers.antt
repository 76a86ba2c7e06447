use Rattle.std.proofs.Common.{◌≡◌, subst, ℕ, List}
use Rattle.document_reading.specs.declared.refusal.Refusal.{Refusal}
use Rattle.document_reading.specs.Document.{IsRefusal}
use Rattle.qprop_cli.specs.Outcome.{Refuses}
use Rattle.qprop_cli.proofs.InputLemmas.{document_refused}
use Rattle.qprop_cli.proofs.plan.read_plan.Goals as goal

pub returns-in-Err-Refused-clause-refused : goal.returns-in-Err-Refused-clause-refused
returns-in-Err-Refused-clause-refused g c = λ told is.
    let refusal = c.in-Err-Refused.refusal in
    let refused = (rw c.in-Err-Refused.is at c.read_document.ensures.refused) refusal c.in-Err-Refused.field-0-is in
    let whole : IsRefusal c.args.mode c.in-Ok.bytes.items refusal = subst (λ (bytes : List ℕ). IsRefusal c.args.mode bytes refusal) c.deref.ensures.value refused in
    let one : refusal ≡ told = cc is in
    let P : Refusal → Type 0 = λ r. Refuses 1048576 (IsRefusal c.args.mode) (g.S.Source.left c.args.source.now) (g.S.Source.left c.read_all.new.source) r in
    subst P one (document_refused c.args.mode (g.S.Source.left c.args.source.now) (g.S.Source.left c.read_all.new.source) c.in-Ok.bytes.items refusal c.in-Ok.ensures.read whole)
