use Rattle.std.proofs.Common.{◌∙◌, ◌<◌, length, get_or, sym, ap, arith}
use Rattle.std.proofs.lemmas.List.{get_or-map}
use Rattle.std.specs.String.{string_bytes}
use Rattle.svc_graph.proofs.Naming.{length-bytes_of}
use Rattle.svc_graph.proofs.Rows.{length-book, name-read}
use Rattle.svc_graph.specs.Columns.{bytes_of}
use Rattle.svc_graph.specs.History.{row_at}
use Rattle.svc_graph.proofs.book.Book.name.Goals as goal

pub bounds-as_slice-place : goal.bounds-as_slice-place
bounds-as_slice-place c =
    let within : c.args.id < length (bytes_of c.self.inside.names.keys) = rw (← length-book c.self.invariant, c.self.view_is) c.requires in
    omega (arith, ap length c.as_slice.ensures.keys, length-bytes_of c.self.inside.names.keys)

pub returns : goal.returns
returns c =
    let within : c.args.id < length (bytes_of c.self.inside.names.keys) = rw (← length-book c.self.invariant, c.self.view_is) c.requires in
    let name = c.index-as_slice-place.result in
    c.as_str.ensures.value ∙
    name-read c.self.invariant c.args.id (string_bytes name) within
    (ap string_bytes (c.index-as_slice-place.is ∙ (λ i. get_or (c.as_slice.ensures.keys i) (c.place.ensures i) name)) ∙
    sym (get_or-map string_bytes c.self.inside.names.keys c.args.id name (string_bytes name) (omega (arith, length-bytes_of c.self.inside.names.keys)))) ∙
    ap (λ rows. (row_at rows c.args.id).name) c.self.view_is
