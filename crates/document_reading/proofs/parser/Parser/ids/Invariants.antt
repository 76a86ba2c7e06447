use Rattle.std.proofs.Common.{◌≡◌, ◌≤◌, ◌+◌, take, length, vec_len, vec_capacity}
use Rattle.document_reading.proofs.NumberLemmas.{AreNumbers}
use Rattle.document_reading.proofs.parser.Parser.ids.Given as goal

abbrev pub invariant-loop-name : goal.invariant-loop-name
invariant-loop-name l = AreNumbers l.self.book (take l.name-index l.names) l.ids.items × (vec_len l.ids + length l.names ≤ vec_capacity l.ids + l.name-index)
