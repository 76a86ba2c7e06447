use Rattle.std.proofs.Common.{length, ap, arith}
use Rattle.wire_frame.proofs.Longest.{frame_length}
use Rattle.wire_frame.proofs.frame_laws.frames_are_short.Goals as goal

pub returns : goal.returns
returns c = λ frame bytes f. omega (arith, ap length f.is, frame_length frame (f.within, f.fits))
