-- Frames and their bytes. The highest byte of a number stands first.
use Rattle.std.specs.Prelude.{◌≡◌, ℕ, ◌<◌, ◌≤◌, ◌^◌, List, ◌∷◌, ◌++◌, length, map, flat_map, All}
use Rattle.std.specs.Int.{w16, w32, to_be_bytes}
use Rattle.propagation.specs.Stamps.{Rise, RisePairs}
use Rattle.svc_value.specs.Layout.{layout, IsWithin}
use Rattle.wire_frame.specs.declared.frame.Frame.{Frame}
use Rattle.wire_frame.specs.declared.frame.Frame.TheVariants.{Subscribe, Unsubscribe, Sources, Carried, Changed}
use Rattle.wire_frame.specs.declared.frame.Announced.{Announced}
use Rattle.wire_frame.specs.declared.frame.Cargo.{Cargo}
use Rattle.wire_frame.specs.declared.frame.Delta.{Delta}
use Rattle.wire_frame.specs.declared.place_clock.PlaceClock.{PlaceClock}
use Rattle.svc_value.specs.declared.limits.TheConstants.{MAX_SERVICES}

-- ---- the bytes

-- a number in 4 bytes
abbrev pub u32_bytes : ℕ → List ℕ
u32_bytes n = to_be_bytes w32 n

-- a number in 2 bytes
abbrev pub u16_bytes : ℕ → List ℕ
u16_bytes n = to_be_bytes w16 n

-- a place, and its clock
abbrev pub place_clock : PlaceClock → List ℕ
place_clock named = named.place ∷ u32_bytes named.clock

-- the kind of a frame, its epoch, and what the kind has behind it
abbrev pub frame_bytes : Frame → List ℕ
frame_bytes (Subscribe epoch) = 1 ∷ u32_bytes epoch
frame_bytes (Unsubscribe epoch) = 2 ∷ u32_bytes epoch
frame_bytes (Sources announced) = 3 ∷ u32_bytes announced.epoch ++ length announced.keys ∷ flat_map u16_bytes announced.keys
frame_bytes (Carried cargo) = 4 ∷ u32_bytes cargo.epoch ++ layout cargo.value ++ length cargo.clocks ∷ flat_map u32_bytes cargo.clocks
frame_bytes (Changed delta) = 5 ∷ u32_bytes delta.epoch ++ layout delta.value ++ length delta.clocks ∷ flat_map place_clock delta.clocks

-- ---- what is within its layout

-- the places with their clocks, as pairs
abbrev pub pairs : List PlaceClock → List (ℕ × ℕ)
pairs clocks = map (λ named. (named.place, named.clock)) clocks

-- an epoch of at least 1, and from 1 to 64 keys, strictly rising
pub record IsAnnounced (announced : Announced) : Type 0 where
  pub epoch : 1 ≤ announced.epoch
  pub some : 1 ≤ length announced.keys
  pub most : length announced.keys ≤ MAX_SERVICES
  pub rise : Rise 0 announced.keys

-- an epoch of at least 1, and from 1 to 64 clocks of at least 1
pub record IsCargo (cargo : Cargo) : Type 0 where
  pub epoch : 1 ≤ cargo.epoch
  pub some : 1 ≤ length cargo.clocks
  pub most : length cargo.clocks ≤ MAX_SERVICES
  pub clocks : All (λ clock. 1 ≤ clock) cargo.clocks

-- an epoch of at least 1, and places below 64, strictly rising, with clocks of at least 1
pub record IsDelta (delta : Delta) : Type 0 where
  pub epoch : 1 ≤ delta.epoch
  pub rise : RisePairs 0 (pairs delta.clocks)
  pub below : All (λ named. named.place < MAX_SERVICES) delta.clocks

-- the frame is within its layout
abbrev pub IsWithinLayout : Frame → Type 0
IsWithinLayout (Subscribe epoch) = 1 ≤ epoch
IsWithinLayout (Unsubscribe epoch) = 1 ≤ epoch
IsWithinLayout (Sources announced) = IsAnnounced announced
IsWithinLayout (Carried cargo) = IsCargo cargo
IsWithinLayout (Changed delta) = IsDelta delta

-- each number of the frame fits its type, and so does its value: this holds of every frame of the program
abbrev pub Fits : Frame → Type 0
Fits (Subscribe epoch) = epoch < 2 ^ 32
Fits (Unsubscribe epoch) = epoch < 2 ^ 32
Fits (Sources announced) = (announced.epoch < 2 ^ 32) × All (λ key. key < 2 ^ 16) announced.keys
Fits (Carried cargo) = (cargo.epoch < 2 ^ 32) × IsWithin cargo.value × All (λ clock. clock < 2 ^ 32) cargo.clocks
Fits (Changed delta) = (delta.epoch < 2 ^ 32) × IsWithin delta.value × All (λ named. named.clock < 2 ^ 32) delta.clocks

-- the bytes are those of this frame
pub record FrameOf (frame : Frame) (bytes : List ℕ) : Type 0 where
  pub within : IsWithinLayout frame
  pub fits : Fits frame
  pub is : bytes ≡ frame_bytes frame
