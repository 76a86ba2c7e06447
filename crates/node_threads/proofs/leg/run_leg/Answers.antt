use Rattle.std.proofs.lemmas.Result.{IfOk-weaker}
use Rattle.node_threads.proofs.LegLemmas.{can_gather, in_same_leg}
use Rattle.node_threads.proofs.leg.run_leg.Goals as goal

pub from_workers-requires-clause-openings : goal.from_workers-requires-clause-openings
from_workers-requires-clause-openings g c =
    (can_gather c.args.network c.in_ok-crew.crew c.in_ok-after.after c.kept.ensures c.requires c.in_ok-crew.ensures c.in_ok-after.ensures.go_on c.in_ok-after.ensures.book).0

pub from_workers-requires-clause-tied : goal.from_workers-requires-clause-tied
from_workers-requires-clause-tied g c =
    (can_gather c.args.network c.in_ok-crew.crew c.in_ok-after.after c.kept.ensures c.requires c.in_ok-crew.ensures c.in_ok-after.ensures.go_on c.in_ok-after.ensures.book).1

pub returns-clause-leg : goal.returns-clause-leg
returns-clause-leg g c =
    IfOk-weaker c.drained.result _ _ (λ new goes. in_same_leg c.args.network c.in_ok-crew.crew c.in_ok-after.after c.kept.ensures c.requires c.in_ok-crew.ensures c.in_ok-after.ensures.go_on c.in_ok-after.ensures.book c.in_ok-gathered.gathered new c.in_ok-gathered.ensures goes) c.drained.ensures.goes
