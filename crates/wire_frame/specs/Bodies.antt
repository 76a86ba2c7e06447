-- What stands behind the kind of a frame, part by part.
use Rattle.std.specs.Prelude.{ℕ, List, length}
use Rattle.svc_value.specs.declared.value.Value.{Value}
use Rattle.wire_frame.specs.declared.frame.Frame.{Frame}
use Rattle.wire_frame.specs.declared.frame.Announced.{Announced}
use Rattle.wire_frame.specs.declared.frame.Cargo.{Cargo}
use Rattle.wire_frame.specs.declared.frame.Delta.{Delta}
use Rattle.wire_frame.specs.declared.place_clock.PlaceClock.{PlaceClock}
use Rattle.wire_frame.specs.declared.reason.FrameReason.TheVariants.{Epoch, Count}
use Rattle.wire_frame.specs.Fields.{frame_fields}
use Rattle.wire_frame.specs.Frames.{frame_bytes, IsWithinLayout, Fits}
use Rattle.wire_frame.specs.Parts.{Part, chain, clock_part, byte_part, value_part}
use Rattle.wire_frame.specs.Runs.{Items, run_part, key_items, clock_items, place_items}
use Rattle.svc_value.specs.declared.limits.TheConstants.{MAX_SERVICES}

-- items behind their number, which is at least so much and at most 64
abbrev pub counted_items : {X : Type 0} → Items X → ℕ → Part (ℕ × List X)
counted_items items least = chain (byte_part Count least MAX_SERVICES) (λ count. run_part items 0 count)

-- an epoch, and something behind it
abbrev pub under : {X : Type 0} → Part X → Part (ℕ × X)
under body = chain (clock_part Epoch) (λ _. body)

-- a value, and something behind it
abbrev pub valued : {X : Type 0} → Part X → Part (Value × X)
valued body = chain value_part (λ _. body)

-- the bodies of the kinds that have more than an epoch
abbrev pub announced_body : Part (ℕ × (ℕ × List ℕ))
announced_body = under (counted_items key_items 1)

abbrev pub cargo_body : Part (ℕ × (Value × (ℕ × List ℕ)))
cargo_body = under (valued (counted_items clock_items 1))

abbrev pub delta_body : Part (ℕ × (Value × (ℕ × List PlaceClock)))
delta_body = under (valued (counted_items place_items 0))

-- what such a frame has, in the order of its body
abbrev pub of_announced : Announced → ℕ × (ℕ × List ℕ)
of_announced a = (a.epoch, (length a.keys, a.keys))

abbrev pub of_cargo : Cargo → ℕ × (Value × (ℕ × List ℕ))
of_cargo a = (a.epoch, (a.value, (length a.clocks, a.clocks)))

abbrev pub of_delta : Delta → ℕ × (Value × (ℕ × List PlaceClock))
of_delta a = (a.epoch, (a.value, (length a.clocks, a.clocks)))

-- a whole frame
abbrev pub frame_part : Part Frame
frame_part = record { Good = λ frame. IsWithinLayout frame × Fits frame; bytes = frame_bytes; fields = frame_fields }
