use Rattle.std.proofs.Common.{◌++◌, ◌∷◌, [], ap, sym, ◌∙◌}
use Rattle.std.specs.Prelude.{is_some}
use Rattle.svc_graph.specs.History.{declared_row, find_service}
use Rattle.document_reading.proofs.PresentLemmas.{bare_more, new_name}
use Rattle.document_reading.proofs.present.declare_next.Goals as goal

pub add_service-requires-clause-new : goal.add_service-requires-clause-new
add_service-requires-clause-new c =
    ap is_some ((λ i. find_service (c.requires.copy i) (c.name.ensures i)) ∙ new_name c.args.book.now c.args.id c.requires.book c.requires.id)

pub returns : goal.returns
returns c =
    c.in_ok-add_service.ensures.ok
    ∙ (λ i. c.requires.copy i ++ declared_row (c.name.ensures i) (c.kind.ensures i).rank (c.kind.ensures i).ty ∷ [])
    ∙ sym (bare_more c.args.book.now c.args.id c.requires.id)
