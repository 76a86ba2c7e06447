use Rattle.std.proofs.Common.{[]}
use Rattle.trace_text.proofs.Untracing.{settled_is_untraced}
use Rattle.trace_text.proofs.laws.settled_text_is_untraced.Goals as goal

pub returns : goal.returns
returns c = λ legs text each settles. settled_is_untraced 0 [] legs text tt each settles
