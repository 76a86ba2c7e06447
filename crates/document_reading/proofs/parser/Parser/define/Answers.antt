use Rattle.std.proofs.Common.{ℕ, ◌++◌, subst, sym, ◌∙◌}
use Rattle.std.specs.List.{list_any}
use Rattle.svc_graph.specs.Accepting.{IsChangeOf}
use Rattle.svc_graph.specs.declared.definition.Change.TheVariants as change
use Rattle.document_reading.specs.declared.refusal.Code.TheVariants.{E08}
use Rattle.document_reading.specs.declared.statement.Statement.TheVariants as says
use Rattle.document_reading.specs.Refusals.{is_unknown, refusal}
use Rattle.document_reading.specs.Parser.{state, RefusesExactly, change_code}
use Rattle.document_reading.specs.Sound.{IsProperBody}
use Rattle.document_reading.specs.State.{service_named}
use Rattle.document_reading.proofs.FormLemmas.{define_form}
use Rattle.document_reading.proofs.RefusalLemmas.{none_where, define_refusal}
use Rattle.document_reading.proofs.parser.Parser.define.Goals as goal

pub make-requires-clause-form : goal.make-requires-clause-form
make-requires-clause-form c =
    let s = state c.args.self.now in
    let f = c.in-Formula.formula in
    subst (λ (n : ℕ). IsChangeOf s.rows n (change.Define c.in_ok-formula-in-Formula.formula)) (sym c.in_ok-id-in-Formula.ensures.number)
    (subst (λ made. IsChangeOf s.rows (service_named s.rows c.args.name.now) (change.Define made)) (sym c.in_ok-formula-in-Formula.ensures.formula)
    (define_form s c.args.name.now f c.requires.sound (none_where (is_unknown s.rows c.args.name.now) E08 c.in_ok-id-in-Formula.ensures.answers)
    (subst IsProperBody c.in-Formula.is c.requires.proper)
    (none_where (list_any (is_unknown s.rows) (f.names ++ f.members)) E08 c.in_ok-formula-in-Formula.ensures.answers)))

pub returns-in_ok-formula-in-Formula-clause-answers : goal.returns-in_ok-formula-in-Formula-clause-answers
returns-in_ok-formula-in-Formula-clause-answers c =
    let s = state c.args.self.now in
    let f = c.in-Formula.formula in
    subst (RefusesExactly c.make.result)
    ((λ i. change_code s (c.in_ok-id-in-Formula.ensures.number i) (change.Define (c.in_ok-formula-in-Formula.ensures.formula i)))
    ∙ sym (define_refusal c.args.self.now.mode s c.args.name.now f (none_where (is_unknown s.rows c.args.name.now) E08 c.in_ok-id-in-Formula.ensures.answers)
    (none_where (list_any (is_unknown s.rows) (f.names ++ f.members)) E08 c.in_ok-formula-in-Formula.ensures.answers))
    ∙ (λ i. refusal c.args.self.now.mode s (says.Define c.args.name.now (sym c.in-Formula.is i))))
    c.make.ensures.answers
