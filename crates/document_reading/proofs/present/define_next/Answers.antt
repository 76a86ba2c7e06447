use Rattle.std.proofs.Common.{List, subst, sym, ◌∙◌}
use Rattle.std.proofs.lemmas.Result.{on_ok_weaker}
use Rattle.svc_graph.specs.declared.definition.Change.TheVariants.{Birth}
use Rattle.svc_graph.specs.History.{Row, rows_after_change}
use Rattle.svc_graph.specs.Refusals.{AcceptsChange}
use Rattle.document_reading.proofs.PresentLemmas.{half_accepts, half_changed}
use Rattle.document_reading.proofs.present.define_next.Goals as goal

pub apply-requires : goal.apply-requires
apply-requires c =
    subst (λ (rows : List Row). AcceptsChange rows c.args.id (Birth c.in_ok-first.first)) (sym c.requires.copy)
    (half_accepts c.args.book.now c.args.id c.in_ok-first.first c.requires.book c.requires.id c.in_ok-first.ensures)

pub returns : goal.returns
returns c =
    on_ok_weaker c.apply.result
    (λ e. e ∙ (λ i. rows_after_change (c.requires.copy i) c.args.id (Birth c.in_ok-first.first)) ∙ half_changed c.args.book.now c.args.id c.in_ok-first.first c.requires.id c.in_ok-first.ensures)
    c.apply.ensures.ok
