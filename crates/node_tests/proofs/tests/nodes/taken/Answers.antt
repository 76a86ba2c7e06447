use Rattle.node_tests.proofs.ServiceLemmas.{goes_took}
use Rattle.node_tests.proofs.tests.nodes.taken.Goals as goal

pub returns : goal.returns
returns c = goes_took c.take.result c.args.node.now c.take.new.self c.args.sender c.args.bytes c.take.ensures.ok c.take.ensures.err
