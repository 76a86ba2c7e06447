use Rattle.std.proofs.Common.{replicate, false}
use Rattle.svc_graph.proofs.Reached.{one-mark, none-marked}
use Rattle.central_eval.proofs.reaching.one_mark.Goals as goal

pub returns-clause-mark : goal.returns-clause-mark
returns-clause-mark c = rw c.place.ensures (one-mark (replicate 64 false) c.args.id (none-marked 64) c.requires)
