use Rattle.judge_state.proofs.Blocks.{block_lists_go_on}
use Rattle.judge_state.proofs.laws.block_lists_go_on.Goals as goal

pub returns : goal.returns
returns g c = block_lists_go_on g.row.V.Denot g.row.D.Denot
