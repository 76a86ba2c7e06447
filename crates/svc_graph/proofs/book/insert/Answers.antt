use Rattle.std.proofs.Common.{◌≡◌, ◌∙◌, ◌++◌, ◌∷◌, [], is_some, false, position, ap}
use Rattle.std.specs.Str.{bytes_eq}
use Rattle.std.specs.String.{string_bytes}
use Rattle.svc_graph.proofs.Naming.{bytes_of-insert}
use Rattle.svc_graph.specs.Columns.{bytes_of}
use Rattle.svc_graph.proofs.book.insert.Goals as goal

pub returns-clause-ok : goal.returns-clause-ok
returns-clause-ok c =
    let texts = c.args.names.now.keys in
    let text = c.in_ok-from_str.field-0 in
    let none : is_some (position (bytes_eq (string_bytes text)) (bytes_of texts)) ≡ false = rw c.in_ok-from_str.ensures.ok c.requires in
    ap bytes_of c.in_ok-insert.ensures.keys ∙ bytes_of-insert texts text none ∙ ap (λ name. bytes_of texts ++ name ∷ []) c.in_ok-from_str.ensures.ok
