use Rattle.judged_run.proofs.Settled.{legal_runs_are_settled}
use Rattle.judged_run.proofs.laws.legal_runs_are_settled.Goals as goal

pub returns : goal.returns
returns g c = legal_runs_are_settled g.row.V.Denot g.row.D.Denot
