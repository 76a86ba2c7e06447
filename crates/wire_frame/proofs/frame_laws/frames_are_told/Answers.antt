use Rattle.std.proofs.Common.{[], refl}
use Rattle.wire_frame.proofs.Told.{same_frame}
use Rattle.wire_frame.proofs.frame_laws.frames_are_told.Goals as goal

pub returns-clause-same : goal.returns-clause-same
returns-clause-same c = λ f g bytes p q. (same_frame f g bytes bytes [] [] p q refl).0

pub returns-clause-apart : goal.returns-clause-apart
returns-clause-apart c = same_frame
