use Rattle.std.proofs.Common.{◌∙◌, sym, ap}
use Rattle.std.proofs.lemmas.Result.{IfOk-weaker}
use Rattle.svc_graph.proofs.Rows.{roster_of-book}
use Rattle.svc_graph.specs.History.{roster_of}
use Rattle.svc_graph.proofs.book.Book.roster.Goals as goal

pub returns : goal.returns
returns c =
    IfOk-weaker c.from_slice.result _ _
    (λ roster e. e ∙ c.as_slice.ensures.value ∙ sym (roster_of-book c.self.invariant) ∙ ap roster_of c.self.view_is) c.from_slice.ensures
