use Rattle.node_core.proofs.LegLemmas.{new_nodes_open, legs_open, changes_stay, takes_stay, turns_stay, handing_stays, legs_close}
use Rattle.node_core.proofs.node.Node.legs_are_known.Goals as goal

pub returns-clause-made : goal.returns-clause-made
returns-clause-made c = new_nodes_open

pub returns-clause-opens : goal.returns-clause-opens
returns-clause-opens c = legs_open

pub returns-clause-changes : goal.returns-clause-changes
returns-clause-changes c = changes_stay

pub returns-clause-takes : goal.returns-clause-takes
returns-clause-takes c = takes_stay

pub returns-clause-turns : goal.returns-clause-turns
returns-clause-turns c = turns_stay

pub returns-clause-hands : goal.returns-clause-hands
returns-clause-hands c = handing_stays

pub returns-clause-closes : goal.returns-clause-closes
returns-clause-closes c = legs_close
