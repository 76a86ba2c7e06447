use Rattle.std.proofs.Common.{◌∙◌, sym, ap, length}
use Rattle.svc_graph.proofs.Rows.{length-book}
use Rattle.svc_graph.proofs.book.Book.len.Goals as goal

pub returns-clause-len : goal.returns-clause-len
returns-clause-len c =
    c.len.ensures ∙ c.self.inside.kinds.ok.0 ∙ c.self.invariant.kinds_len ∙ sym (length-book c.self.invariant) ∙ ap length c.self.view_is
