use Rattle.std.proofs.Common.{refl}
use Rattle.settle_core.proofs.TogetherLemmas.{crew_few, is_gathered, together_network}
use Rattle.settle_core.proofs.network.Network.from_workers.Goals as goal

pub invariant_of-result : goal.invariant_of-result
invariant_of-result c =
    together_network c.args.crew.book c.args.crew.workers.items c.in_ok-nodes.nodes.items c.in_ok-nodes.links.items c.in_ok-nodes.ensures
    (crew_few c.args.crew.book c.args.crew.workers.items c.requires.openings) c.requires.openings.openings c.requires.openings.are

pub returns : goal.returns
returns c =
    is_gathered c.args.crew.book c.args.crew.workers.items c.in_ok-nodes.nodes.items c.in_ok-nodes.links.items c.in_ok-nodes.ensures
    (crew_few c.args.crew.book c.args.crew.workers.items c.requires.openings) c.args.crew refl refl
