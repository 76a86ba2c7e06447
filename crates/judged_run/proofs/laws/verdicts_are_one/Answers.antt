use Rattle.judged_run.proofs.OneVerdict.{verdicts_are_one}
use Rattle.judged_run.proofs.laws.verdicts_are_one.Goals as goal

pub returns : goal.returns
returns g c = verdicts_are_one g.row.V.Denot g.row.D.Denot
