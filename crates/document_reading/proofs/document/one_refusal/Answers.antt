use Rattle.document_reading.proofs.ReadingLemmas.{one_answer, one_refusal}
use Rattle.document_reading.proofs.document.one_refusal.Goals as goal

pub returns-clause-one : goal.returns-clause-one
returns-clause-one c = one_refusal

pub returns-clause-none : goal.returns-clause-none
returns-clause-none c = one_answer
