use Rattle.judge_state.proofs.Lists.{due_is_one_list}
use Rattle.judge_state.proofs.laws.due_is_one_list.Goals as goal

pub returns : goal.returns
returns g c = due_is_one_list g.row.V.Denot
