use Rattle.node_tests.proofs.ServiceLemmas.{goes_done}
use Rattle.node_tests.proofs.tests.nodes.done.Goals as goal

pub returns : goal.returns
returns c = goes_done c.do_next.result c.args.node.now c.do_next.new.self c.do_next.ensures.state c.do_next.ensures.err
