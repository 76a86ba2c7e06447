use Rattle.node_threads.proofs.leg.drained.Goals as goal

pub returns-clause-settled : goal.returns-clause-settled
returns-clause-settled c = c.quiet.ensures.settled c.in_ok-drain.ensures.quiet
