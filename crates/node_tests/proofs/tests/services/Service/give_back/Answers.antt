use Rattle.node_tests.proofs.tests.services.Service.give_back.Goals as goal

pub invariant_of-self : goal.invariant_of-self
invariant_of-self c = λ rows is. c.given_back.ensures c.self.inside.id rows (c.self.invariant rows is)
