use Rattle.std.proofs.Common.{List, subst}
use Rattle.svc_token.specs.declared.token.Token.{Token}
use Rattle.document_reading.specs.Grammar.{Means}
use Rattle.document_reading.specs.Reading.{ParsesAs}
use Rattle.document_reading.proofs.SaidLemmas.{line_says}
use Rattle.document_reading.proofs.line.read_spoken.Goals as goal

pub returns-in-Ok : goal.returns-in-Ok
returns-in-Ok c =
    line_says c.args.line.now c.cut.new.tokens.items c.requires c.in-Ok.ensures.found c.statement.result
    (subst (λ (tokens : List Token). ParsesAs (Means tokens) c.statement.result) c.as_slice.ensures.value c.statement.ensures)
