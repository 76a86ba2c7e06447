use Rattle.judged_run.proofs.OneVerdict.{one_verdict_holds}
use Rattle.judged_run.proofs.laws.one_verdict_holds.Goals as goal

pub returns : goal.returns
returns g c = one_verdict_holds g.row.V.Denot g.row.D.Denot
