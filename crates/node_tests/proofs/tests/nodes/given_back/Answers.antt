use Rattle.std.proofs.Common.{◌∙◌, ap}
use Rattle.node_core.specs.View.{NodeView}
use Rattle.node_tests.proofs.ServiceLemmas.{stays}
use Rattle.node_tests.proofs.tests.nodes.given_back.Goals as goal

pub returns : goal.returns
returns c = stays c.args.node.now c.give_back.new.self (ap (λ (s : NodeView). s.state) c.give_back.ensures ∙ ap (λ (s : NodeView). s.state) c.next_out.ensures.rest)
