use Rattle.judged_run.proofs.Settled.{legal_runs_are_traced}
use Rattle.judged_run.proofs.laws.legal_runs_are_traced.Goals as goal

pub returns : goal.returns
returns g c = legal_runs_are_traced g.row.V.Denot g.row.D.Denot
