use Rattle.judged_run.proofs.OneVerdict.{machines_are_exact}
use Rattle.judged_run.proofs.laws.machines_are_exact.Goals as goal

pub returns : goal.returns
returns g c = machines_are_exact g.row.V.Denot g.row.D.Denot
