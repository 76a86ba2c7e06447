use Rattle.std.proofs.Common.{subst, sym, ◌∙◌}
use Rattle.svc_graph.specs.declared.definition.Change.TheVariants as change
use Rattle.document_reading.specs.declared.refusal.Code.TheVariants.{E08}
use Rattle.document_reading.specs.Refusals.{is_unknown}
use Rattle.document_reading.specs.Parser.{state, RefusesExactly, change_code}
use Rattle.document_reading.proofs.RefusalLemmas.{none_where, add_refusal}
use Rattle.document_reading.proofs.parser.Parser.add.Goals as goal

pub returns-clause-answers : goal.returns-clause-answers
returns-clause-answers c =
    let s = state c.args.self.now in
    subst (RefusesExactly c.make.result)
    ((λ i. change_code s (c.in_ok-reader.ensures.number i) (change.Add (c.in_ok-member.ensures.number i)))
    ∙ sym (add_refusal c.args.self.now.mode s c.args.reader.now c.args.member.now
    (none_where (is_unknown s.rows c.args.reader.now) E08 c.in_ok-reader.ensures.answers)
    (none_where (is_unknown s.rows c.args.member.now) E08 c.in_ok-member.ensures.answers)))
    c.make.ensures.answers
