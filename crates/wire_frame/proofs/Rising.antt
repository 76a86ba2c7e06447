-- The lists of a frame, by items and by what they keep.
use Rattle.std.proofs.Common.{ℕ, zero, suc, ◌+◌, ◌<◌, ◌≤◌, ◌^◌, List, [], ◌∷◌, length, All, arith}
use Rattle.propagation.specs.Stamps.{Rise, RisePairs}
use Rattle.wire_frame.specs.declared.place_clock.PlaceClock.{PlaceClock}
use Rattle.wire_frame.specs.Frames.{pairs}
use Rattle.wire_frame.specs.Runs.{IsRun, key_items, clock_items, place_items}

-- ---- lists, one item at a time

all_first : {X : Type 0} (P : X → Type 0) (x : X) (xs : List X) → All P (x ∷ xs) → P x
all_first P x xs h = h 0 x (omega arith)

all_rest : {X : Type 0} (P : X → Type 0) (x : X) (xs : List X) → All P (x ∷ xs) → All P xs
all_rest P x xs h k d l = h (suc k) d (omega arith)

all_none : {X : Type 0} (P : X → Type 0) → All P []
all_none P k d l = absurd (omega arith)

all_both : {X : Type 0} (P : X → Type 0) (x : X) (xs : List X) → P x → All P xs → All P (x ∷ xs)
all_both P x xs p h zero d l = p
all_both P x xs p h (suc k) d l = h k d (omega arith)

-- ---- rising keys

-- rising keys leave room for one another
rise_room : (least : ℕ) (keys : List ℕ) → least ≤ 2 ^ 16 → Rise least keys → All (λ key. key < 2 ^ 16) keys → least + length keys ≤ 2 ^ 16
rise_room least [] l rise small = omega arith
rise_room least (key ∷ keys) l rise small =
    let first : key < 2 ^ 16 = all_first (λ k. k < 2 ^ 16) key keys small in
    let rest : suc key + length keys ≤ 2 ^ 16 = rise_room (suc key) keys (omega arith) rise.1 (all_rest (λ k. k < 2 ^ 16) key keys small) in
    omega (arith, rise.0)

pub keys_run : (least : ℕ) (keys : List ℕ) → Rise least keys → All (λ key. key < 2 ^ 16) keys → IsRun key_items least (length keys) keys
keys_run least [] rise small = tt
keys_run least (key ∷ keys) rise small =
    let first : key < 2 ^ 16 = all_first (λ k. k < 2 ^ 16) key keys small in
    let others = all_rest (λ k. k < 2 ^ 16) key keys small in
    ((rise.0, omega (arith, rise_room (suc key) keys (omega arith) rise.1 others)), keys_run (suc key) keys rise.1 others)

pub keys_rise : (least n : ℕ) (keys : List ℕ) → IsRun key_items least n keys → Rise least keys
keys_rise least zero [] run = tt
keys_rise least zero (key ∷ keys) run = absurd run
keys_rise least (suc n) [] run = absurd run
keys_rise least (suc n) (key ∷ keys) run = (run.0.0, keys_rise (suc key) n keys run.1)

pub keys_small : (least n : ℕ) (keys : List ℕ) → IsRun key_items least n keys → All (λ key. key < 2 ^ 16) keys
keys_small least zero [] run = all_none (λ key. key < 2 ^ 16)
keys_small least zero (key ∷ keys) run = absurd run
keys_small least (suc n) [] run = absurd run
keys_small least (suc n) (key ∷ keys) run = all_both (λ k. k < 2 ^ 16) key keys (omega (arith, run.0.1)) (keys_small (suc key) n keys run.1)

-- ---- clocks

pub clocks_run : (least : ℕ) (clocks : List ℕ) → All (λ clock. 1 ≤ clock) clocks → All (λ clock. clock < 2 ^ 32) clocks → IsRun clock_items least (length clocks) clocks
clocks_run least [] some small = tt
clocks_run least (clock ∷ clocks) some small =
    ((all_first (λ c. 1 ≤ c) clock clocks some, all_first (λ c. c < 2 ^ 32) clock clocks small), clocks_run 0 clocks (all_rest (λ c. 1 ≤ c) clock clocks some) (all_rest (λ c. c < 2 ^ 32) clock clocks small))

pub clocks_some : (least n : ℕ) (clocks : List ℕ) → IsRun clock_items least n clocks → All (λ clock. 1 ≤ clock) clocks
clocks_some least zero [] run = all_none (λ clock. 1 ≤ clock)
clocks_some least zero (clock ∷ clocks) run = absurd run
clocks_some least (suc n) [] run = absurd run
clocks_some least (suc n) (clock ∷ clocks) run = all_both (λ c. 1 ≤ c) clock clocks run.0.0 (clocks_some 0 n clocks run.1)

pub clocks_small : (least n : ℕ) (clocks : List ℕ) → IsRun clock_items least n clocks → All (λ clock. clock < 2 ^ 32) clocks
clocks_small least zero [] run = all_none (λ clock. clock < 2 ^ 32)
clocks_small least zero (clock ∷ clocks) run = absurd run
clocks_small least (suc n) [] run = absurd run
clocks_small least (suc n) (clock ∷ clocks) run = all_both (λ c. c < 2 ^ 32) clock clocks run.0.1 (clocks_small 0 n clocks run.1)

-- ---- places with their clocks

pub places_fit : (least : ℕ) (clocks : List PlaceClock) → least ≤ 64 → RisePairs least (pairs clocks) → All (λ named. named.place < 64) clocks → least + length clocks ≤ 64
places_fit least [] l rise below = omega arith
places_fit least (named ∷ clocks) l rise below =
    let first : named.place < 64 = all_first (λ n. n.place < 64) named clocks below in
    let rest : suc named.place + length clocks ≤ 64 = places_fit (suc named.place) clocks (omega arith) rise.2 (all_rest (λ (n : PlaceClock). n.place < 64) named clocks below) in
    omega (arith, rise.0)

pub places_run : (least : ℕ) (clocks : List PlaceClock) → RisePairs least (pairs clocks) → All (λ named. named.place < 64) clocks → All (λ named. named.clock < 2 ^ 32) clocks →
    IsRun place_items least (length clocks) clocks
places_run least [] rise below small = tt
places_run least (named ∷ clocks) rise below small =
    let first : named.place < 64 = all_first (λ n. n.place < 64) named clocks below in
    let others = all_rest (λ (n : PlaceClock). n.place < 64) named clocks below in (
      ((rise.0, omega (arith, places_fit (suc named.place) clocks (omega arith) rise.2 others)), (rise.1, all_first (λ (n : PlaceClock). n.clock < 2 ^ 32) named clocks small)),
      places_run (suc named.place) clocks rise.2 others (all_rest (λ (n : PlaceClock). n.clock < 2 ^ 32) named clocks small),
    )

pub places_rise : (least n : ℕ) (clocks : List PlaceClock) → IsRun place_items least n clocks → RisePairs least (pairs clocks)
places_rise least zero [] run = tt
places_rise least zero (named ∷ clocks) run = absurd run
places_rise least (suc n) [] run = absurd run
places_rise least (suc n) (named ∷ clocks) run = (run.0.0.0, run.0.1.0, places_rise (suc named.place) n clocks run.1)

pub places_below : (least n : ℕ) (clocks : List PlaceClock) → IsRun place_items least n clocks → All (λ named. named.place < 64) clocks
places_below least zero [] run = all_none (λ (named : PlaceClock). named.place < 64)
places_below least zero (named ∷ clocks) run = absurd run
places_below least (suc n) [] run = absurd run
places_below least (suc n) (named ∷ clocks) run = all_both (λ (n : PlaceClock). n.place < 64) named clocks (omega (arith, run.0.0.1)) (places_below (suc named.place) n clocks run.1)

pub places_small : (least n : ℕ) (clocks : List PlaceClock) → IsRun place_items least n clocks → All (λ named. named.clock < 2 ^ 32) clocks
places_small least zero [] run = all_none (λ (named : PlaceClock). named.clock < 2 ^ 32)
places_small least zero (named ∷ clocks) run = absurd run
places_small least (suc n) [] run = absurd run
places_small least (suc n) (named ∷ clocks) run = all_both (λ (n : PlaceClock). n.clock < 2 ^ 32) named clocks run.0.1.1 (places_small (suc named.place) n clocks run.1)
