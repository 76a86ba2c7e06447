-- Frames that are to be sent.
use Rattle.std.specs.Prelude.{◌≡◌, ℕ, List, [], ◌∷◌, ◌++◌, take, drop}
use Rattle.propagation.specs.Logs.{Entry as TheEntry, Frame as TheFrame}
use Rattle.propagation.specs.Logs.Frame.{Sources as TheSources, Changed as TheChanged}
use Rattle.service_machine.specs.Steps.{sends_to}
use Rattle.wire_frame.specs.declared.frame.Announced.{Announced}
use Rattle.wire_frame.specs.declared.frame.Delta.{Delta}
use Rattle.svc_value.specs.declared.value.Value.{Value}
use Rattle.wire_frame.specs.declared.frame.Frame.{Frame}
use Rattle.wire_frame.specs.Frames.{FrameOf, pairs, u32_bytes}
use Rattle.node_core.specs.Entries.{Extends, sent_entries}

-- the bytes of a frame under another epoch, which is in four bytes behind the kind
abbrev pub with_epoch : ℕ → List ℕ → List ℕ
with_epoch epoch bytes = take 1 bytes ++ u32_bytes epoch ++ drop 5 bytes

-- the second list has the bytes of the frame more
pub record Adds (q : ℕ) (frame : Frame) (old new : List (ℕ × List ℕ)) : Type 0 where
  pub bytes : List ℕ
  pub frame_of : FrameOf frame bytes
  pub added : new ≡ old ++ (q, bytes) ∷ []

-- sending these frames makes this of each log
pub record Says (outgoing : List (ℕ × List ℕ)) (step : List (TheEntry Value) → List (TheEntry Value)) : Type 0 where
  pub each : (log : List (TheEntry Value)) → Extends log (sent_entries outgoing) (step log)

-- these frames under its epoch to each reader, newest first
abbrev pub each_told : List (ℕ × ℕ) → (ℕ → List (TheFrame Value)) → List (TheEntry Value) → List (TheEntry Value)
each_told [] frames_under log = log
each_told (reader ∷ readers) frames_under log = each_told readers frames_under (sends_to reader.0 (frames_under reader.1) log)

-- a value under an epoch
abbrev pub value_frames : Delta → ℕ → List (TheFrame Value)
value_frames delta epoch = TheChanged epoch delta.value (pairs delta.clocks) ∷ []

-- keys and a value under an epoch, newest first
abbrev pub full_frames : Announced → Delta → ℕ → List (TheFrame Value)
full_frames announced delta epoch = TheChanged epoch delta.value (pairs delta.clocks) ∷ TheSources epoch announced.keys ∷ []
