-- The fields of a frame.
use Rattle.std.specs.Prelude.{List, ◌∷◌, ◌++◌, map, flat_map, replicate}
use Rattle.std.specs.List.{enumerate_from}
use Rattle.svc_value.specs.declared.value.Value.{Value}
use Rattle.svc_value.specs.declared.taken.ValueReason.{ValueReason}
use Rattle.svc_value.specs.declared.taken.ValueReason.TheVariants as value
use Rattle.svc_value.specs.Layout.{layout}
use Rattle.svc_value.specs.Taken.{reason_at}
use Rattle.wire_frame.specs.declared.frame.Frame.{Frame}
use Rattle.wire_frame.specs.declared.frame.Frame.TheVariants.{Subscribe, Unsubscribe, Sources, Carried, Changed}
use Rattle.wire_frame.specs.declared.reason.FrameReason.{FrameReason}
use Rattle.wire_frame.specs.declared.reason.FrameReason.TheVariants as field

-- the fields of a key, of a clock, and of a place with its clock
abbrev pub key_fields : List FrameReason
key_fields = replicate 2 field.Ids

abbrev pub clock_fields : List FrameReason
clock_fields = replicate 4 field.Clocks

abbrev pub place_fields : List FrameReason
place_fields = field.Places ∷ clock_fields

-- the field of each byte of a value, by the name that it has where a value is refused
abbrev pub value_fields : Value → List FrameReason
value_fields v = map (λ numbered. field.Value (reason_at (layout v) numbered.0)) (enumerate_from 0 (layout v))

-- the kind, and the epoch
abbrev pub head_fields : List FrameReason
head_fields = field.Kind ∷ replicate 4 field.Epoch

-- the field of each byte of a frame
abbrev pub frame_fields : Frame → List FrameReason
frame_fields (Subscribe epoch) = head_fields
frame_fields (Unsubscribe epoch) = head_fields
frame_fields (Sources announced) = head_fields ++ field.Count ∷ flat_map (λ _. key_fields) announced.keys
frame_fields (Carried cargo) = head_fields ++ value_fields cargo.value ++ field.Count ∷ flat_map (λ _. clock_fields) cargo.clocks
frame_fields (Changed delta) = head_fields ++ value_fields delta.value ++ field.Count ∷ flat_map (λ _. place_fields) delta.clocks

-- why a value is refused, as why a frame is
abbrev pub frame_reason : ValueReason → FrameReason
frame_reason value.Short = field.Short
frame_reason value.Tag = field.Value value.Tag
frame_reason value.Length = field.Value value.Length
frame_reason value.Utf8 = field.Value value.Utf8
frame_reason value.FaultCode = field.Value value.FaultCode
