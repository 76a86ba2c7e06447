use Rattle.node_core.proofs.LivesLemmas.{reached_keeps}
use Rattle.node_core.proofs.node.Node.keeps_promise.Goals as goal

pub returns : goal.returns
returns c = reached_keeps
