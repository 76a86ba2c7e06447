use Rattle.std.proofs.Common.{drop}
use Rattle.document_reading.proofs.MemberLemmas.{GoesOn}
use Rattle.document_reading.proofs.body.members.Given as goal

abbrev pub invariant-loop-token : goal.invariant-loop-token
invariant-loop-token l = GoesOn l.tokens l.members l.at_name (drop l.token-index l.tokens)
