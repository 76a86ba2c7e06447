use Rattle.judged_run.proofs.Opened.{central_values_open}
use Rattle.judged_run.proofs.laws.central_values_open.Goals as goal

pub returns : goal.returns
returns g c = central_values_open g.row.V.Denot g.row.D.Denot
