use Rattle.std.proofs.Common.{◌∙◌}
use Rattle.std.proofs.lemmas.Result.{on_ok_weaker}
use Rattle.document_generator.proofs.GeneratorLemmas.{changes_value, changes_members}
use Rattle.document_generator.proofs.draft.Draft.add_change.Goals as goal

pub returns-then-draw-lt3 : goal.returns-then-draw-lt3
returns-then-draw-lt3 c =
    on_ok_weaker c.change_input.result
    (λ e. e ∙ changes_value c.args.inputs c.args.services c.draw.result c.args.self.now _ c.draw.ensures.draft c.draw.ensures.value c.if-draw-lt3.true)
    c.change_input.ensures

pub returns-else-draw-lt3 : goal.returns-else-draw-lt3
returns-else-draw-lt3 c =
    on_ok_weaker c.change_derived.result
    (λ e. e ∙ changes_members c.args.inputs c.args.services c.draw.result c.args.self.now _ c.draw.ensures.draft c.draw.ensures.value c.if-draw-lt3.false)
    c.change_derived.ensures
