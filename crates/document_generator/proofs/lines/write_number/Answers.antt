use Rattle.std.proofs.Common.{rules}
use Rattle.document_generator.specs.Generator.{number_text}
use Rattle.document_generator.proofs.lines.write_number.Goals as goal

pub returns : goal.returns
unfolding number_text
returns c = search rules
