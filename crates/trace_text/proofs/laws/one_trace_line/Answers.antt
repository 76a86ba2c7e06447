use Rattle.std.proofs.Common.{◌∙◌, sym}
use Rattle.trace_text.proofs.OneEntry.{one_line}
use Rattle.trace_text.proofs.laws.one_trace_line.Goals as goal

pub returns : goal.returns
returns c = λ name count line n m x y names p q. one_line name count names n m x y p.owner q.owner p.within q.within (sym p.is ∙ q.is)
