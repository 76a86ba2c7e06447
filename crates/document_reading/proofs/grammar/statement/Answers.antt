use Rattle.std.proofs.Common.{refl, sym}
use Rattle.document_reading.proofs.GrammarLemmas.{line_answers, no_line}
use Rattle.document_reading.proofs.grammar.statement.Goals as goal

pub returns-in-Some : goal.returns-in-Some
returns-in-Some c = line_answers c.args.tokens.now (c.in-Some.found.0, c.in-Some.found.1.now) (sym c.in-Some.ensures) c.statement_of.result c.statement_of.ensures

pub returns-in-None : goal.returns-in-None
returns-in-None c = (refl, no_line c.args.tokens.now (sym c.in-None.ensures))
