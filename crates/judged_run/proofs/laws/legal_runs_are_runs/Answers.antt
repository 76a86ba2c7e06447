use Rattle.judged_run.proofs.Settled.{legal_runs_are_runs}
use Rattle.judged_run.proofs.laws.legal_runs_are_runs.Goals as goal

pub returns : goal.returns
returns g c = legal_runs_are_runs g.row.V.Denot g.row.D.Denot
