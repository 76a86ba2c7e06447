use Rattle.node_tests.proofs.ServiceLemmas.{goes_turned}
use Rattle.node_tests.proofs.tests.nodes.turn_with.Goals as goal

pub returns : goal.returns
returns g c = goes_turned c.turn.result c.args.node.now c.turn.new.self c.turn.ensures.state c.turn.ensures.err
