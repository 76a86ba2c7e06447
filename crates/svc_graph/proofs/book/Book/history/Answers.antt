use Rattle.std.proofs.Common.{◌∙◌, ◌<◌, ◌≤◌, length, get_or, ap, arith}
use Rattle.svc_graph.proofs.Rows.{length-book, history-read}
use Rattle.svc_graph.specs.Columns.{bytes_of, rows_of}
use Rattle.svc_graph.specs.History.{history_of}
use Rattle.svc_graph.proofs.book.Book.history.Goals as goal

pub index-requires : goal.index-requires
index-requires c =
    let within : c.args.id < length (bytes_of c.self.inside.names.keys) = rw (← length-book c.self.invariant, c.self.view_is) c.requires in
    omega (arith, c.self.inside.histories.ok.0, c.self.invariant.histories_len)

pub returns-clause-history : goal.returns-clause-history
returns-clause-history c =
    let within : c.args.id < length (bytes_of c.self.inside.names.keys) = rw (← length-book c.self.invariant, c.self.view_is) c.requires in
    history-read c.self.invariant c.args.id c.index.result.now within (c.index.ensures ∙ ap (λ n. get_or c.self.inside.histories.items n c.index.result.now) c.place.ensures) ∙
    ap (λ rows. history_of rows c.args.id) c.self.view_is

pub returns-clause-clock : goal.returns-clause-clock
returns-clause-clock c =
    let within : c.args.id < length (rows_of (bytes_of c.self.inside.names.keys) c.self.inside.kinds.items c.self.inside.histories.items) = rw c.self.view_is c.requires in
    let bound : length (history_of c.args.self.now c.args.id) ≤ 1024000 = rw (← c.self.view_is) (c.self.invariant.book.each c.args.id within).clock in
    rw (returns-clause-history c) bound
