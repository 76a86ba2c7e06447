-- The bytes of frames: how many they are, and those under another epoch.
use Rattle.std.proofs.Common.{◌≡◌, ℕ, ◌+◌, ◌*◌, ◌<◌, ◌≤◌, ◌^◌, ◌++◌, List, [], ◌∷◌, length, flat_map, refl, ap, arith}
use Rattle.std.proofs.lemmas.List.{length-append}
use Rattle.svc_value.specs.Layout.{layout}
use Rattle.wire_frame.specs.declared.frame.Announced.{Announced}
use Rattle.wire_frame.specs.declared.frame.Delta.{Delta}
use Rattle.wire_frame.specs.declared.place_clock.PlaceClock.{PlaceClock}
use Rattle.svc_value.specs.declared.value.Value.{Value}
use Rattle.wire_frame.specs.declared.frame.Frame.TheVariants.{Sources, Changed}
use Rattle.wire_frame.specs.Frames.{FrameOf, IsDelta, frame_bytes, u16_bytes, place_clock}
use Rattle.wire_frame.proofs.Rising.{places_fit}
use Rattle.node_core.specs.Outgoing.{with_epoch, Adds}

-- items of one length
flat_length : {X : Type 0} (f : X → List ℕ) (size : ℕ) → ((x : X) → length (f x) ≡ size) → (xs : List X) → length (flat_map f xs) ≡ size * length xs
flat_length f size each [] = omega arith
flat_length f size each (x ∷ xs) =
    let rest : length (flat_map f xs) ≡ size * length xs = flat_length f size each xs in
    grind (arith, each x, length-append (f x) (flat_map f xs))

pub sources_length : (epoch : ℕ) (keys : List ℕ) → length (frame_bytes (Sources (record { epoch = epoch; keys = keys }))) ≡ 6 + 2 * length keys
sources_length epoch keys = omega (arith, flat_length u16_bytes 2 (λ x. refl) keys)

pub delta_length : (epoch : ℕ) (value : Value) (clocks : List PlaceClock) → length (frame_bytes (Changed (record { epoch = epoch; value = value; clocks = clocks }))) ≡ 6 + length (layout value) + 5 * length clocks
delta_length epoch value clocks = omega (arith, flat_length place_clock 5 (λ x. refl) clocks, length-append (layout value) (length clocks ∷ flat_map place_clock clocks))

pub few_clocks : (epoch : ℕ) (value : Value) (clocks : List PlaceClock) → IsDelta (record { epoch = epoch; value = value; clocks = clocks }) → length clocks ≤ 64
few_clocks epoch value clocks is = omega (arith, places_fit 0 clocks (omega arith) is.rise is.below)

-- ---- another epoch

pub long_sources : (a : Announced) (bytes : List ℕ) → FrameOf (Sources a) bytes → 5 ≤ length bytes
long_sources a bytes of = omega (arith, ap (λ (bs : List ℕ). length bs) of.is)

pub long_value : (d : Delta) (bytes : List ℕ) → FrameOf (Changed d) bytes → 5 ≤ length bytes
long_value d bytes of = omega (arith, ap (λ (bs : List ℕ). length bs) of.is)

pub sources_under : (a : Announced) (bytes : List ℕ) (epoch : ℕ) → FrameOf (Sources a) bytes → 1 ≤ epoch → epoch < 2 ^ 32 → FrameOf (Sources (record a { epoch = epoch })) (with_epoch epoch bytes)
sources_under a bytes epoch of some fits =
    record {
      within = record { epoch = some; some = of.within.some; most = of.within.most; rise = of.within.rise };
      fits = (fits, of.fits.1);
      is = ap (λ (bs : List ℕ). with_epoch epoch bs) of.is;
    }

pub value_under : (d : Delta) (bytes : List ℕ) (epoch : ℕ) → FrameOf (Changed d) bytes → 1 ≤ epoch → epoch < 2 ^ 32 → FrameOf (Changed (record d { epoch = epoch })) (with_epoch epoch bytes)
value_under d bytes epoch of some fits =
    record {
      within = record { epoch = some; rise = of.within.rise; below = of.within.below };
      fits = (fits, of.fits.1, of.fits.2);
      is = ap (λ (bs : List ℕ). with_epoch epoch bs) of.is;
    }

pub adds_sources : (q : ℕ) (a : Announced) (bytes : List ℕ) (epoch : ℕ) (old new : List (ℕ × List ℕ)) → FrameOf (Sources a) bytes → 1 ≤ epoch → epoch < 2 ^ 32 → new ≡ old ++ (q, with_epoch epoch bytes) ∷ [] →
    Adds q (Sources (record a { epoch = epoch })) old new
adds_sources q a bytes epoch old new of some fits added = record { bytes = with_epoch epoch bytes; frame_of = sources_under a bytes epoch of some fits; added = added }

pub adds_value : (q : ℕ) (d : Delta) (bytes : List ℕ) (epoch : ℕ) (old new : List (ℕ × List ℕ)) → FrameOf (Changed d) bytes → 1 ≤ epoch → epoch < 2 ^ 32 → new ≡ old ++ (q, with_epoch epoch bytes) ∷ [] →
    Adds q (Changed (record d { epoch = epoch })) old new
adds_value q d bytes epoch old new of some fits added = record { bytes = with_epoch epoch bytes; frame_of = value_under d bytes epoch of some fits; added = added }
