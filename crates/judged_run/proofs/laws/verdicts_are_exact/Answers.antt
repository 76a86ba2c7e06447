use Rattle.judged_run.proofs.Exact.{verdicts_are_exact}
use Rattle.judged_run.proofs.laws.verdicts_are_exact.Goals as goal

pub returns : goal.returns
returns g c = verdicts_are_exact g.row.V.Denot g.row.D.Denot
