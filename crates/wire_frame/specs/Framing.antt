-- Frames out of a stream: each stands after its length, and the first wrong one ends them.
use Rattle.std.specs.Prelude.{◌≡◌, ℕ, ◌+◌, ◌<◌, ◌⊎◌, List, ◌++◌, length}
use Rattle.wire_frame.specs.declared.errors.FrameError.{FrameError}
use Rattle.wire_frame.specs.declared.errors.FrameError.TheVariants as error
use Rattle.wire_frame.specs.declared.frame.Frame.{Frame}
use Rattle.wire_frame.specs.declared.reason.FrameReason.{FrameReason}
use Rattle.wire_frame.specs.declared.reason.FrameReason.TheVariants.{Rest, Length}
use Rattle.wire_frame.specs.Cut.{past}
use Rattle.wire_frame.specs.Frames.{frame_bytes, FrameOf}
use Rattle.wire_frame.specs.Stream.{framed_item, IsFront, IsTooLong}
use Rattle.wire_frame.specs.Taking.{IsAtFront, IsBadFrame}

-- the bytes that were fed and are not answered, and the offset of the first of them
pub record Unread : Type 0 where
  pub held : List ℕ
  pub offset : ℕ

-- the frame stands in front of what is unread, after its length, and both are gone afterwards
pub record IsAnswered (old new : Unread) (frame : Frame) : Type 0 where
  pub frame_of : FrameOf frame (frame_bytes frame)
  pub whole : old.held ≡ framed_item (frame_bytes frame) ++ new.held
  pub further : new.offset ≡ past old.offset (length (frame_bytes frame) + 2)

-- the item is longer than the frame in front of it
pub record IsLonger (item : List ℕ) (place : ℕ) (why : FrameReason) : Type 0 where
  pub frame : Frame
  pub front : IsAtFront item frame place
  pub longer : place < length item
  pub rest : why ≡ Rest

-- the item is not just a frame: nothing in front of it is one, or it goes on behind it
abbrev pub IsNoFrame : List ℕ → ℕ → FrameReason → Type 0
IsNoFrame item place why = IsBadFrame item place why ⊎ IsLonger item place why

-- what is refused of an item, unless memory ran out
abbrev pub IsRefusedItem : List ℕ → FrameError → Type 0
IsRefusedItem item (error.Bad place why) = IsNoFrame item place why
IsRefusedItem item error.OutOfMemory = Unit {0}

-- a length stands in front that no frame has
pub record HasLongFront (held : List ℕ) (place : ℕ) (why : FrameReason) : Type 0 where
  pub too_long : IsTooLong held
  pub start : place ≡ 0
  pub length_is : why ≡ Length

-- a whole item stands in front, and is no frame
pub record HasWrongFront (held : List ℕ) (place : ℕ) (why : FrameReason) : Type 0 where
  pub item : List ℕ
  pub front : IsFront held item
  pub no_frame : IsNoFrame item place why

-- the next frame is wrong
abbrev pub IsWrongNext : List ℕ → ℕ → FrameReason → Type 0
IsWrongNext held place why = HasLongFront held place why ⊎ HasWrongFront held place why
