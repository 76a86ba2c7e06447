use Rattle.std.proofs.Common.{length}
use Rattle.svc_token.proofs.CutLemmas.{CutSoFar}
use Rattle.svc_token.proofs.cutting.cut.Given as goal

abbrev pub invariant-loop-rest : goal.invariant-loop-rest
invariant-loop-rest l = CutSoFar l.text l.tokens.items l.rest

abbrev pub decreases-loop-rest : goal.decreases-loop-rest
decreases-loop-rest l = length l.rest
