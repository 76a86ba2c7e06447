use Rattle.std.proofs.Common.{subst, sym, ap, ◌∙◌, ℕ}
use Rattle.svc_graph.specs.declared.definition.Change.TheVariants as change
use Rattle.document_reading.specs.declared.refusal.Code.TheVariants.{E08}
use Rattle.document_reading.specs.Refusals.{is_unknown}
use Rattle.document_reading.specs.Parser.{state, RefusesExactly, change_code}
use Rattle.document_reading.proofs.RefusalLemmas.{none_where, set_refusal}
use Rattle.document_reading.proofs.parser.Parser.set.Goals as goal

pub returns-clause-answers : goal.returns-clause-answers
returns-clause-answers c =
    let s = state c.args.self.now in
    subst (RefusesExactly c.make.result)
    (ap (λ (n : ℕ). change_code s n (change.Set c.args.value)) c.in_ok-id.ensures.number
    ∙ sym (set_refusal c.args.self.now.mode s c.args.name.now c.args.value (none_where (is_unknown s.rows c.args.name.now) E08 c.in_ok-id.ensures.answers)))
    c.make.ensures.answers
