use Rattle.judge_state.proofs.Opening.{log_lists_begin}
use Rattle.judge_state.proofs.laws.log_lists_begin.Goals as goal

pub returns : goal.returns
returns g c = log_lists_begin g.row.V.Denot g.row.D.Denot
