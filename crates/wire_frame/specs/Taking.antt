-- What is read off the front of some bytes as a frame, and why nothing is.
use Rattle.std.specs.Prelude.{◌≡◌, ℕ, ◌<◌, ◌≤◌, List, ◌++◌, length, get_or, take}
use Rattle.svc_value.specs.Prefix.{IsPlace}
use Rattle.wire_frame.specs.declared.errors.FrameError.{FrameError}
use Rattle.wire_frame.specs.declared.errors.FrameError.TheVariants as error
use Rattle.wire_frame.specs.declared.frame.Frame.{Frame}
use Rattle.wire_frame.specs.declared.reason.FrameReason.{FrameReason}
use Rattle.wire_frame.specs.declared.reason.FrameReason.TheVariants as reason
use Rattle.wire_frame.specs.Fields.{frame_fields}
use Rattle.wire_frame.specs.Frames.{FrameOf}

-- the bytes are those of some frame
abbrev pub IsFrame : List ℕ → Type 0
IsFrame bytes = (frame : Frame) × FrameOf frame bytes

-- the first so many bytes are those of the frame
pub record IsAtFront (bytes : List ℕ) (frame : Frame) (len : ℕ) : Type 0 where
  pub fits : len ≤ length bytes
  pub frame_of : FrameOf frame (take len bytes)

-- the bytes begin some frame, and the byte behind them is in this field of it
pub record IsBehind (bytes : List ℕ) (field : FrameReason) : Type 0 where
  pub frame : Frame
  pub rest : List ℕ
  pub frame_of : FrameOf frame (bytes ++ rest)
  pub there : length bytes < length (frame_fields frame)
  pub field_is : get_or (frame_fields frame) (length bytes) field ≡ field

-- no front of the bytes is a frame; the place is how far they begin one, and the reason is the field of the byte there, or Short where they end
pub record IsBadFrame (bytes : List ℕ) (place : ℕ) (why : FrameReason) : Type 0 where
  pub none : (n : ℕ) → ¬ (IsFrame (take n bytes))
  pub at : IsPlace IsFrame bytes place
  pub short : place ≡ length bytes → why ≡ reason.Short
  pub field : place < length bytes → IsBehind (take place bytes) why

-- the bytes are refused so, unless memory ran out
abbrev pub IsRefused : List ℕ → FrameError → Type 0
IsRefused bytes (error.Bad place reason) = IsBadFrame bytes place reason
IsRefused bytes error.OutOfMemory = Unit {0}
