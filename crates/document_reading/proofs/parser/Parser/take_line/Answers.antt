use Rattle.document_reading.specs.Parser.{state}
use Rattle.document_reading.proofs.AnswerLemmas.{taken_refused, unread_refused}
use Rattle.document_reading.proofs.ProperLemmas.{said_proper}
use Rattle.document_reading.proofs.parser.Parser.take_line.Goals as goal

pub take-requires-clause-proper : goal.take-requires-clause-proper
take-requires-clause-proper c = said_proper c.in-Ok.ensures.said.says

pub returns-in-Ok-clause-refused : goal.returns-in-Ok-clause-refused
returns-in-Ok-clause-refused c =
    taken_refused c.args.self.now.mode (state c.args.self.now) c.args.line.now c.in-Ok.statement c.take.result c.in-Ok.ensures.said c.take.ensures.answers

pub returns-in-Err-clause-refused : goal.returns-in-Err-clause-refused
returns-in-Err-clause-refused c = unread_refused (Unit {0}) c.args.self.now.mode (state c.args.self.now) c.args.line.now c.in-Err.stop c.in-Err.ensures.refused
