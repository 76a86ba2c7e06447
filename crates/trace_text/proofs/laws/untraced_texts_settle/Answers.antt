use Rattle.std.proofs.Common.{[]}
use Rattle.trace_text.proofs.TracesSettle.{untraced_settles}
use Rattle.trace_text.proofs.laws.untraced_texts_settle.Goals as goal

pub returns : goal.returns
returns c = λ flags legs traces text each traced. untraced_settles flags 0 [] legs traces text tt each traced
