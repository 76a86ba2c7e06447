-- Items of one kind that stand one behind the other.
use Rattle.std.specs.Prelude.{ℕ, zero, suc, ◌+◌, ◌<◌, ◌≤◌, ◌^◌, List, [], ◌∷◌, flat_map}
use Rattle.wire_frame.specs.declared.place_clock.PlaceClock.{PlaceClock}
use Rattle.wire_frame.specs.declared.reason.FrameReason.{FrameReason}
use Rattle.wire_frame.specs.Fields.{key_fields, clock_fields, place_fields}
use Rattle.wire_frame.specs.Frames.{u32_bytes, u16_bytes, place_clock}
use Rattle.wire_frame.specs.Parts.{Part}
use Rattle.svc_value.specs.declared.limits.TheConstants.{MAX_SERVICES}

-- a kind of items: which of them can stand where the least is known and how many follow, the least after each, its bytes, and their fields
pub record Items (X : Type 0) : Type 1 where
  pub Good : ℕ → ℕ → X → Type 0
  pub least_after : X → ℕ
  pub bytes : X → List ℕ
  pub fields : X → List FrameReason

-- one item, where the least is known and so many follow
abbrev pub item_part : {X : Type 0} → Items X → ℕ → ℕ → Part X
item_part items least left = record { Good = items.Good least left; bytes = items.bytes; fields = items.fields }

-- just so many items, each of which can stand where it stands
abbrev pub IsRun : {X : Type 0} → Items X → ℕ → ℕ → List X → Type 0
IsRun items least zero [] = Unit {0}
IsRun items least zero (x ∷ xs) = ⊥
IsRun items least (suc left) [] = ⊥
IsRun items least (suc left) (x ∷ xs) = items.Good least left x × IsRun items (items.least_after x) left xs

-- just so many items, from the least on
abbrev pub run_part : {X : Type 0} → Items X → ℕ → ℕ → Part (List X)
run_part items least count = record { Good = IsRun items least count; bytes = flat_map items.bytes; fields = flat_map items.fields }

-- keys: each is above those before it, and leaves room for those behind it
abbrev pub key_items : Items ℕ
key_items = record {
  Good = λ least left key. (least ≤ key) × (key + left < 2 ^ 16);
  least_after = λ key. suc key;
  bytes = u16_bytes;
  fields = λ _. key_fields;
}

-- clocks
abbrev pub clock_items : Items ℕ
clock_items = record {
  Good = λ least left clock. (1 ≤ clock) × (clock < 2 ^ 32);
  least_after = λ _. 0;
  bytes = u32_bytes;
  fields = λ _. clock_fields;
}

-- places with their clocks: each place is above those before it, and leaves room for those behind it
abbrev pub place_items : Items PlaceClock
place_items = record {
  Good = λ least left named. ((least ≤ named.place) × (named.place + left < MAX_SERVICES)) × ((1 ≤ named.clock) × (named.clock < 2 ^ 32));
  least_after = λ named. suc named.place;
  bytes = place_clock;
  fields = λ _. place_fields;
}
