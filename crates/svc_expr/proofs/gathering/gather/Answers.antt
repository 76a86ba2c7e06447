use Rattle.std.proofs.Common.{arith}
use Rattle.svc_expr.proofs.NameLemmas.{all_gathered}
use Rattle.svc_expr.proofs.gathering.gather.Goals as goal

pub returns : goal.returns
returns c = all_gathered c.loop-token.names _ c.args.tokens.now c.loop-token.token-index (omega arith) c.loop-token.invariant.0 c.loop-token.invariant.1
