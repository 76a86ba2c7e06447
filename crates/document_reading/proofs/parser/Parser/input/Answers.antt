use Rattle.std.proofs.Common.{subst, sym, ◌∙◌}
use Rattle.svc_graph.specs.declared.definition.Change.TheVariants as change
use Rattle.svc_graph.specs.declared.definition.Definition.TheVariants as definition
use Rattle.document_reading.specs.Parser.{state, RefusesExactly, change_code}
use Rattle.document_reading.proofs.RefusalLemmas.{input_refusal}
use Rattle.document_reading.proofs.parser.Parser.input.Goals as goal

pub returns-clause-answers : goal.returns-clause-answers
returns-clause-answers c =
    subst (RefusesExactly c.make.result)
    ((λ i. change_code (c.in_ok-id.ensures.taken i) (c.in_ok-id.ensures.number i) (change.Birth (definition.Input c.args.value)))
    ∙ sym (input_refusal c.args.self.now.mode (state c.args.self.now) c.args.name.now c.args.ty c.args.value c.in_ok-name.ensures))
    c.make.ensures.answers
