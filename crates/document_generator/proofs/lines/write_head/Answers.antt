use Rattle.std.proofs.Common.{codes}
use Rattle.std.proofs.lemmas.Result.{on_ok_weaker}
use Rattle.document_generator.specs.Generator.{number_text, derived_name}
use Rattle.document_generator.proofs.GeneratorLemmas.{four_parts}
use Rattle.document_generator.proofs.lines.write_head.Goals as goal

pub returns : goal.returns
returns c =
    on_ok_weaker c.write_number.result
    (four_parts c.args.out.now.items (codes "derived ") (derived_name c.args.j) (codes " : int rank ") (number_text c.args.j) _ _ _ _
    c.in_ok-extend_from_slice.ensures.items c.in_ok-write_derived_name.ensures c.in_ok-extend_from_slice-2.ensures.items)
    c.write_number.ensures
