use Rattle.judged_run.proofs.Table.{rules_are_the_table}
use Rattle.judged_run.proofs.laws.rules_are_the_table.Goals as goal

pub returns : goal.returns
returns g c = rules_are_the_table g.row.V.Denot g.row.D.Denot
