use Rattle.document_reading.proofs.ReadingLemmas.{one_plan}
use Rattle.document_reading.proofs.document.one_plan.Goals as goal

pub returns : goal.returns
returns c = one_plan
