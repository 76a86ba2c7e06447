-- How many bytes a frame has.
use Rattle.std.proofs.Common.{◌≡◌, ℕ, ◌*◌, ◌≤◌, List, [], ◌∷◌, length, flat_map, refl, arith}
use Rattle.std.proofs.lemmas.List.{length-append}
use Rattle.svc_value.specs.declared.value.Value.{Value}
use Rattle.svc_value.specs.declared.value.Value.TheVariants.{Int, Words, Bad}
use Rattle.svc_value.specs.Layout.{layout, IsWithin}
use Rattle.wire_frame.specs.declared.frame.Frame.{Frame}
use Rattle.wire_frame.specs.declared.frame.Frame.TheVariants.{Subscribe, Unsubscribe, Sources, Carried, Changed}
use Rattle.wire_frame.specs.Bodies.{frame_part}
use Rattle.wire_frame.specs.Frames.{frame_bytes, u32_bytes, u16_bytes, place_clock}
use Rattle.wire_frame.proofs.Rising.{places_fit}

-- items of one length
flat_length : {X : Type 0} (f : X → List ℕ) (size : ℕ) → ((x : X) → length (f x) ≡ size) → (xs : List X) → length (flat_map f xs) ≡ size * length xs
flat_length f size each [] = omega arith
flat_length f size each (x ∷ xs) =
    let rest : length (flat_map f xs) ≡ size * length xs = flat_length f size each xs in
    grind (arith, each x, length-append (f x) (flat_map f xs))

layout_length : (v : Value) → IsWithin v → length (layout v) ≤ 259
layout_length (Int z) w = omega arith
layout_length (Words t) w = omega (arith, w.0)
layout_length (Bad f) w = omega arith

pub frame_length : (frame : Frame) → frame_part.Good frame → length (frame_bytes frame) ≤ 585
frame_length (Subscribe x) g = omega arith
frame_length (Unsubscribe x) g = omega arith
frame_length (Sources a) g = omega (arith, g.0.most, flat_length u16_bytes 2 (λ x. refl) a.keys)
frame_length (Carried a) g =
    omega (arith, g.0.most, layout_length a.value g.1.1, flat_length u32_bytes 4 (λ x. refl) a.clocks, length-append (layout a.value) (length a.clocks ∷ flat_map u32_bytes a.clocks))
frame_length (Changed a) g =
    omega (
      arith,
      places_fit 0 a.clocks (omega arith) g.0.rise g.0.below,
      layout_length a.value g.1.1,
      flat_length place_clock 5 (λ x. refl) a.clocks,
      length-append (layout a.value) (length a.clocks ∷ flat_map place_clock a.clocks),
    )
