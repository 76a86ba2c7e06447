use Rattle.node_threads.proofs.LegLemmas.{can_gather}
use Rattle.thread_tests.proofs.by_hand.gathered.Goals as goal

pub from_workers-requires-clause-openings : goal.from_workers-requires-clause-openings
from_workers-requires-clause-openings c =
    (can_gather c.args.network c.in_ok-crew.crew c.in_ok-after.after c.kept.ensures c.requires c.in_ok-crew.ensures c.in_ok-after.ensures.go_on c.in_ok-after.ensures.book).0

pub from_workers-requires-clause-tied : goal.from_workers-requires-clause-tied
from_workers-requires-clause-tied c =
    (can_gather c.args.network c.in_ok-crew.crew c.in_ok-after.after c.kept.ensures c.requires c.in_ok-crew.ensures c.in_ok-after.ensures.go_on c.in_ok-after.ensures.book).1
