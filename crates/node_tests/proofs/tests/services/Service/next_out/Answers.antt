use Rattle.node_tests.proofs.tests.services.Service.next_out.Goals as goal

pub invariant_of-self : goal.invariant_of-self
invariant_of-self c = λ rows is. c.handed_over.ensures c.self.inside.id rows (c.self.invariant rows is)
