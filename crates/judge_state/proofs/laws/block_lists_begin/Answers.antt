use Rattle.judge_state.proofs.Blocks.{block_lists_begin}
use Rattle.judge_state.proofs.laws.block_lists_begin.Goals as goal

pub returns : goal.returns
returns g c = block_lists_begin g.row.V.Denot g.row.D.Denot
