use Rattle.std.proofs.Common.{◌∙◌, ◌<◌, length, get_or, ap, arith}
use Rattle.svc_graph.proofs.Rows.{length-book, kind-read}
use Rattle.svc_graph.specs.Columns.{bytes_of}
use Rattle.svc_graph.specs.History.{kind_of, row_at}
use Rattle.svc_graph.proofs.book.Book.kind.Goals as goal

pub index-requires : goal.index-requires
index-requires c =
    let within : c.args.id < length (bytes_of c.self.inside.names.keys) = rw (← length-book c.self.invariant, c.self.view_is) c.requires in
    omega (arith, c.self.inside.kinds.ok.0, c.self.invariant.kinds_len)

pub returns : goal.returns
returns c =
    let within : c.args.id < length (bytes_of c.self.inside.names.keys) = rw (← length-book c.self.invariant, c.self.view_is) c.requires in
    kind-read c.self.invariant c.args.id c.index.result.now within (c.index.ensures ∙ ap (λ n. get_or c.self.inside.kinds.items n c.index.result.now) c.place.ensures) ∙
    ap (λ rows. kind_of (row_at rows c.args.id)) c.self.view_is
