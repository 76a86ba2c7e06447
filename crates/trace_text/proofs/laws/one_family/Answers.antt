use Rattle.trace_text.proofs.OneFamily.{one_family}
use Rattle.trace_text.proofs.laws.one_family.Goals as goal

pub returns : goal.returns
returns c = λ name count a b names p q e. one_family name count names a b p q e
