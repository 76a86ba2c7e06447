use Rattle.judged_run.proofs.Formed.{forms_are_texts}
use Rattle.judged_run.proofs.laws.forms_are_texts.Goals as goal

pub returns : goal.returns
returns g c = forms_are_texts g.row.V.Denot g.row.D.Denot
