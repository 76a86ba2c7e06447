-- What a frame is as a message of the Theory
use Rattle.std.specs.Prelude.{◌≡◌, ℕ, List}
use Rattle.std.proofs.Common.{Option, Some, None}
use Rattle.propagation.specs.Logs.{Frame as TheoryFrame}
use Rattle.propagation.specs.Logs.Frame.{Subscribe as TheorySubscribe, Unsubscribe as TheoryUnsubscribe, Sources as TheorySources, Changed as TheoryChanged}
use Rattle.svc_value.specs.declared.value.Value.{Value}
use Rattle.wire_frame.specs.declared.frame.Frame.{Frame}
use Rattle.wire_frame.specs.declared.frame.Frame.TheVariants.{Subscribe, Unsubscribe, Sources, Carried, Changed}
use Rattle.wire_frame.specs.Frames.{pairs, FrameOf}

-- the message that a frame is; a value of version 1 is none
abbrev pub message : Frame → Option (TheoryFrame Value)
message (Subscribe epoch) = Some (TheorySubscribe epoch)
message (Unsubscribe epoch) = Some (TheoryUnsubscribe epoch)
message (Sources announced) = Some (TheorySources announced.epoch announced.keys)
message (Carried cargo) = None
message (Changed delta) = Some (TheoryChanged delta.epoch delta.value (pairs delta.clocks))

-- the bytes are those of a frame that is this message
pub record IsMessage (bytes : List ℕ) (sent : TheoryFrame Value) : Type 0 where
  pub frame : Frame
  pub frame_of : FrameOf frame bytes
  pub is : message frame ≡ Some sent
