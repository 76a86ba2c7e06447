-- The kinds of items of a frame.
use Rattle.std.proofs.Common.{◌≡◌, ap, refl, ℕ, zero, suc, ◌+◌, ◌≤◌, ◌^◌, List, [], ◌∷◌, drop, arith}
use Rattle.wire_frame.specs.declared.errors.FrameError.{FrameError}
use Rattle.wire_frame.specs.declared.place_clock.PlaceClock.{PlaceClock}
use Rattle.wire_frame.specs.declared.reason.FrameReason.TheVariants.{Places, Clocks}
use Rattle.wire_frame.specs.Parts.{Part, Stands, Fails, chain, byte_part, clock_part, key_part}
use Rattle.wire_frame.specs.Runs.{item_part, IsRun, key_items, clock_items, place_items}
use Rattle.wire_frame.proofs.Digits.{same_word, same_half, byte-one_way, byte-fields}
use Rattle.wire_frame.proofs.Reading.{AreReadable}
use Rattle.wire_frame.proofs.Standing.{fails_first, fails_second, stands_both, fails_as, stands_as}

-- ---- keys

pub keys_room : (least count : ℕ) → least + count ≤ 2 ^ 16 → (xs : List ℕ) × IsRun key_items least count xs
keys_room least zero l = ([], tt)
keys_room least (suc left) l = let rest = keys_room (suc least) left (omega arith) in (least ∷ rest.0, ((omega arith, omega arith), rest.1))

pub keys_readable : AreReadable key_items
keys_readable = record {
  one_way = λ least left x y s t good_x good_y e. same_half x y s t (omega (arith, good_x.1)) (omega (arith, good_y.1)) e;
  each = λ x. refl;
  room = λ least left x good. keys_room (suc x) left (omega (arith, good.1));
}

-- a key up to the greatest that leaves room for those behind it
pub key_stands : (least left most x : ℕ) (bytes : List ℕ) (at to : ℕ) → most + left + 1 ≡ 2 ^ 16 → Stands (key_part least most) x bytes at to → Stands (item_part key_items least left) x bytes at to
key_stands least left most x bytes at to e s = stands_as (key_part least most) (item_part key_items least left) (λ y. y) bytes at to x (λ y good. (good.0, omega (arith, e, good.1))) (λ y _. refl) s

pub key_fails : (least left most : ℕ) (bytes : List ℕ) (at : ℕ) (e : FrameError) → most + left + 1 ≡ 2 ^ 16 → Fails (key_part least most) bytes at e → Fails (item_part key_items least left) bytes at e
key_fails least left most bytes at e sum w = fails_as (key_part least most) (item_part key_items least left) (λ y. y) bytes at e (λ y good. (good.0, omega (arith, sum, good.1))) (λ y _. refl) (λ y. refl)
    (λ y good. (y, (good.0, omega (arith, sum, good.1)), refl)) w

-- ---- clocks

pub clocks_room : (least count : ℕ) → (xs : List ℕ) × IsRun clock_items least count xs
clocks_room least zero = ([], tt)
clocks_room least (suc left) = let rest = clocks_room 0 left in (1 ∷ rest.0, ((omega arith, omega arith), rest.1))

pub clocks_readable : AreReadable clock_items
clocks_readable = record {
  one_way = λ least left x y s t good_x good_y e. same_word x y s t good_x.1 good_y.1 e;
  each = λ x. refl;
  room = λ least left x good. clocks_room 0 left;
}

-- ---- places with their clocks

pub places_room : (least count : ℕ) → least + count ≤ 64 → (xs : List PlaceClock) × IsRun place_items least count xs
places_room least zero l = ([], tt)
places_room least (suc left) l =
    let rest = places_room (suc least) left (omega arith) in
    (record { place = least; clock = 1 } ∷ rest.0, (((omega arith, omega arith), (omega arith, omega arith)), rest.1))

pub places_readable : AreReadable place_items
places_readable = record {
  one_way = λ least left x y s t good_x good_y e.
      let place : x.place ≡ y.place = cc in
      let clock : x.clock ≡ y.clock = same_word x.clock y.clock s t good_x.1.1 good_y.1.1 (ap (drop 1) e) in
      λ i. record { place = place i; clock = clock i };
  each = λ x. refl;
  room = λ least left x good. places_room (suc x.place) left (omega (arith, good.0.1));
}

-- a place, and its clock behind it
abbrev place_and_clock : ℕ → ℕ → Part (ℕ × ℕ)
place_and_clock least most = chain (byte_part Places least most) (λ _. clock_part Clocks)

abbrev named : ℕ × ℕ → PlaceClock
named pair = record { place = pair.0; clock = pair.1 }

pub place_stands : (least left most place clock : ℕ) (bytes : List ℕ) (at middle to : ℕ) → most + left + 1 ≡ 64 → Stands (byte_part Places least most) place bytes at middle →
    Stands (clock_part Clocks) clock bytes middle to → Stands (item_part place_items least left) (record { place = place; clock = clock }) bytes at to
place_stands least left most place clock bytes at middle to e s t =
    stands_as (place_and_clock least most) (item_part place_items least left) named bytes at to (place, clock)
    (λ y good. ((good.0.0, omega (arith, e, good.0.1)), good.1)) (λ y _. refl) (stands_both (byte_part Places least most) (λ _. clock_part Clocks) bytes at middle to place clock s t)

place_fails : (least left most : ℕ) (bytes : List ℕ) (at : ℕ) (e : FrameError) → most + left + 1 ≡ 64 → Fails (place_and_clock least most) bytes at e → Fails (item_part place_items least left) bytes at e
place_fails least left most bytes at e sum w = fails_as (place_and_clock least most) (item_part place_items least left) named bytes at e
    (λ y good. ((good.0.0, omega (arith, sum, good.0.1)), good.1)) (λ y _. refl) (λ y. refl)
    (λ z good. ((z.place, z.clock), ((good.0.0, omega (arith, sum, good.0.1)), good.1), refl)) w

pub place_fails_first : (least left most : ℕ) (bytes : List ℕ) (at : ℕ) (e : FrameError) → most + left + 1 ≡ 64 → Fails (byte_part Places least most) bytes at e →
    Fails (item_part place_items least left) bytes at e
place_fails_first least left most bytes at e sum w = place_fails least left most bytes at e sum
    (fails_first (byte_part Places least most) (λ _. clock_part Clocks) bytes at e (byte-one_way Places least most) (byte-fields Places least most) (λ x good. (1, (omega arith, omega arith))) w)

pub place_fails_second : (least left most place : ℕ) (bytes : List ℕ) (at middle : ℕ) (e : FrameError) → most + left + 1 ≡ 64 → Stands (byte_part Places least most) place bytes at middle →
    Fails (clock_part Clocks) bytes middle e → Fails (item_part place_items least left) bytes at e
place_fails_second least left most place bytes at middle e sum s w = place_fails least left most bytes at e sum
    (fails_second (byte_part Places least most) (λ _. clock_part Clocks) bytes at middle place e (byte-one_way Places least most) (byte-fields Places least most) s w)
