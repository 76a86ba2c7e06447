use Rattle.node_tests.proofs.tests.services.Service.do_next.Goals as goal

pub invariant_of-self : goal.invariant_of-self
invariant_of-self c = λ rows is. c.done.ensures c.self.inside.id rows (c.self.invariant rows is)
