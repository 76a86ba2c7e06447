-- A stream that is read where it stands, a frame at a time.
use Rattle.std.specs.Prelude.{◌≡◌, ℕ, List, ◌++◌}
use Rattle.wire_frame.specs.declared.frame.Frame.{Frame}
use Rattle.wire_frame.specs.Frames.{FrameOf}
use Rattle.wire_frame.specs.Stream.{framed_item}
use Rattle.qprop_cli.specs.Commands.FrameLine.{frame_line}

-- a frame stands in front of the bytes after its length, the rest is behind it, and the line of the frame was added
pub record AddsLine (bytes rest old_text new_text : List ℕ) : Type 0 where
  pub frame : Frame
  pub own : List ℕ
  pub frame_of : FrameOf frame own
  pub whole : bytes ≡ framed_item own ++ rest
  pub line : new_text ≡ old_text ++ frame_line frame
