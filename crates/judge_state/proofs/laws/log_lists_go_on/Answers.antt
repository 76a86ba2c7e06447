use Rattle.judge_state.proofs.Lists.{log_lists_go_on}
use Rattle.judge_state.proofs.laws.log_lists_go_on.Goals as goal

pub returns : goal.returns
returns g c = log_lists_go_on g.row.V.Denot g.row.D.Denot
