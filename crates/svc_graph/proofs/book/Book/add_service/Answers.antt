use Rattle.std.proofs.Common.{◌≡◌, ◌∙◌, ◌<◌, length, is_some, false, sym, ap, arith}
use Rattle.svc_graph.proofs.Books.{IsBook-push}
use Rattle.svc_graph.proofs.Rows.{length-book, rows_of-push, place_of-book, AreColumns-push}
use Rattle.svc_graph.specs.Columns.{bytes_of, rows_of}
use Rattle.svc_graph.specs.History.{find_service}
use Rattle.svc_graph.proofs.book.Book.add_service.Goals as goal

pub overflow_cast-result : goal.overflow_cast-result
overflow_cast-result c =
    let room : length (bytes_of c.self.inside.names.keys) < 64 = rw (← length-book c.self.invariant, c.self.view_is) c.requires.room in
    omega (arith, c.len-number.ensures, c.self.inside.kinds.ok.0, c.self.invariant.kinds_len)

pub insert-requires : goal.insert-requires
insert-requires c = rw (← place_of-book c.self.invariant c.args.name.now, c.self.view_is) c.requires.new

pub invariant_of-self-2 : goal.invariant_of-self-2
invariant_of-self-2 c =
    let new : is_some (find_service (rows_of (bytes_of c.self.inside.names.keys) c.self.inside.kinds.items c.self.inside.histories.items) c.args.name.now) ≡ false = rw c.self.view_is c.requires.new in
    let room : length (rows_of (bytes_of c.self.inside.names.keys) c.self.inside.kinds.items c.self.inside.histories.items) < 64 = rw c.self.view_is c.requires.room in
    let more = AreColumns-push c.self.invariant c.args.name.now c.args.kind (IsBook-push _ c.args.name.now c.args.kind.rank c.args.kind.ty c.self.invariant.book new room c.requires.rank) in
    rw (c.in_ok-insert.ensures.ok, c.push_reserved.ensures.items, c.push_reserved-2.ensures.items, c.reserve.ensures.items, c.reserve-2.ensures.items, c.new.ensures) more

pub returns-clause-number : goal.returns-clause-number
returns-clause-number c =
    c.len-number.ensures ∙ c.self.inside.kinds.ok.0 ∙ c.self.invariant.kinds_len ∙ sym (length-book c.self.invariant) ∙ ap length c.self.view_is

pub returns-clause-ok : goal.returns-clause-ok
returns-clause-ok c =
    let h = c.self.invariant in
    rw (c.in_ok-insert.ensures.ok, c.push_reserved.ensures.items, c.push_reserved-2.ensures.items, c.reserve.ensures.items, c.reserve-2.ensures.items, c.new.ensures, ← c.self.view_is)
    (rows_of-push _ _ _ c.args.name.now c.args.kind h.kinds_len h.histories_len)
