use Rattle.std.proofs.Common.{Some, sym, ap, ◌∙◌}
use Rattle.std.specs.Prelude.{option_map}
use Rattle.std.proofs.lemmas.Result.{IfOk-weaker}
use Rattle.svc_graph.specs.History.{present}
use Rattle.svc_graph.specs.Lent.{definition_lent}
use Rattle.document_reading.proofs.PresentLemmas.{born_present, there_is}
use Rattle.document_reading.proofs.present.last.Goals as goal

pub unwrap-requires : goal.unwrap-requires
unwrap-requires c =
    let found = born_present c.args.book.now c.args.id c.requires.born c.requires.id in
    there_is definition_lent c.present.result found.0 (c.present.ensures ∙ ap present c.history.ensures.history ∙ found.1)

pub returns : goal.returns
returns c =
    IfOk-weaker c.copy.result _ _
    (λ made e. sym (c.present.ensures ∙ ap present c.history.ensures.history) ∙ ap (option_map definition_lent) c.unwrap.ensures ∙ ap Some (sym e)) c.copy.ensures
