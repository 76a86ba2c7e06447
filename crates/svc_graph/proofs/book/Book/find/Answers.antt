use Rattle.std.proofs.Common.{◌∙◌, ◌≤◌, length, sym, ap, arith}
use Rattle.svc_graph.proofs.Naming.{position-bytes_of, length-bytes_of}
use Rattle.svc_graph.proofs.Rows.{length-book, place_of-book}
use Rattle.svc_graph.specs.Columns.{bytes_of}
use Rattle.svc_graph.specs.History.{find_service}
use Rattle.svc_graph.proofs.book.Book.find.Goals as goal

pub returns-in_err-place : goal.returns-in_err-place
returns-in_err-place c =
    c.from_residual.ensures ∙ sym c.in_err-place.was ∙ c.get_index_of.ensures.index ∙ position-bytes_of c.self.inside.names.keys c.args.name.now ∙
    sym (place_of-book c.self.invariant c.args.name.now) ∙ ap (λ rows. find_service rows c.args.name.now) c.self.view_is

pub overflow_cast-result : goal.overflow_cast-result
overflow_cast-result c =
    let few : length (bytes_of c.self.inside.names.keys) ≤ 64 = rw (← length-book c.self.invariant) c.self.invariant.book.few in
    omega (arith, c.in_ok-place.ensures.within, length-bytes_of c.self.inside.names.keys)

pub returns : goal.returns
returns c =
    c.in_ok-place.ensures.index ∙ position-bytes_of c.self.inside.names.keys c.args.name.now ∙ sym (place_of-book c.self.invariant c.args.name.now) ∙ ap (λ rows. find_service rows c.args.name.now) c.self.view_is
