use Rattle.service_machine.specs.States.{slot_at}
use Rattle.node_core.specs.Ranks.{rank_in}
use Rattle.node_core.proofs.RankLemmas.{keys_known}
use Rattle.node_core.proofs.receiving.receive_keys.Goals as goal

pub returns-in-Err-clause-refused : goal.returns-in-Err-clause-refused
returns-in-Err-clause-refused c = c.in-Err.ensures.refused (slot_at c.args.slots.now.items c.args.sender).announced c.args.announced.epoch

pub announce-requires-clause-below : goal.announce-requires-clause-below
announce-requires-clause-below c =
    keys_known c.args.roster.now c.args.sender (rank_in c.args.roster.now c.args.id) c.args.announced.keys c.requires.few c.in_default.ensures.lower c.in_default.ensures.ranks
