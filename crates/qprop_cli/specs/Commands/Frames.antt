-- The command `frames`: streams of frames, the lines that show them, and what is refused of other bytes.
use Rattle.std.specs.Prelude.{◌≡◌, ◌≢◌, ℕ, ◌+◌, ◌<◌, ◌≤◌, ◌⊎◌, List, [], ◌∷◌, ◌++◌, length, flat_map, Option}
use Rattle.std.specs.Io.KnownBytes.{Appends}
use Rattle.document_reading.specs.declared.refusal.Code.TheVariants.{E01, E20}
use Rattle.document_reading.specs.declared.refusal.Refusal.{Refusal}
use Rattle.wire_frame.specs.declared.frame.Frame.{Frame}
use Rattle.wire_frame.specs.Frames.{FrameOf}
use Rattle.wire_frame.specs.Stream.{framed_item}
use Rattle.qprop_cli.specs.Commands.FrameLine.{frame_line}
use Rattle.qprop_cli.specs.Streams.{ReadsWhole}
use Rattle.svc_value.specs.declared.limits.TheConstants.{MAX_DOCUMENT_LEN}

-- the bytes are those of these frames, each after its length
pub data IsStream : List ℕ → List Frame → Type 0 where
  ends : IsStream [] []
  goes_on : {own rest : List ℕ} {frame : Frame} {frames : List Frame} → FrameOf frame own → IsStream rest frames → IsStream (framed_item own ++ rest) (frame ∷ frames)

-- the bytes are a stream of these frames, and no more than a stream may have
pub record HasFrames (bytes : List ℕ) (frames : List Frame) : Type 0 where
  pub short : length bytes ≤ MAX_DOCUMENT_LEN
  pub stream : IsStream bytes frames

-- the bytes are a stream of frames, and the text is a line for each
pub record HasLines (bytes text : List ℕ) : Type 0 where
  pub frames : List Frame
  pub accepted : HasFrames bytes frames
  pub lines : text ≡ flat_map frame_line frames

-- the bytes begin with a frame after its length
pub record BeginsWithFrame (bytes : List ℕ) : Type 0 where
  pub frame : Frame
  pub own : List ℕ
  pub behind : List ℕ
  pub frame_of : FrameOf frame own
  pub whole : bytes ≡ framed_item own ++ behind

-- the frame with this number, from 1, is the first wrong one: what stands before it is a stream of frames, and something follows that begins with none
pub record IsFirstWrong (bytes : List ℕ) (number : ℕ) : Type 0 where
  pub front : List ℕ
  pub rest : List ℕ
  pub frames : List Frame
  pub whole : bytes ≡ front ++ rest
  pub stream : IsStream front frames
  pub number_is : number ≡ length frames + 1
  pub more : rest ≢ []
  pub no_frame : BeginsWithFrame rest → ⊥

-- the refusal of bytes that are no stream, or more than a stream may have
abbrev pub IsStreamRefusal : List ℕ → Refusal → Type 0
IsStreamRefusal bytes refusal =
    ((MAX_DOCUMENT_LEN < length bytes) × (refusal ≡ record { line = 0; code = E01 }))
    ⊎ ((length bytes ≤ MAX_DOCUMENT_LEN) × IsFirstWrong bytes refusal.line × (refusal.code ≡ E20))

-- the source was read to its end, what it gave is a stream of frames, and what was added is a line for each
pub record FramesOutput (left_old left_new held_old held_new : Option (List ℕ)) : Type 0 where
  pub read : List ℕ
  pub whole : ReadsWhole left_old left_new read
  pub added : List ℕ
  pub gained : Appends held_old held_new added
  pub lines : HasLines read added
