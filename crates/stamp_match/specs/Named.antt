-- A choice among slots, by their senders.
use Rattle.std.specs.Prelude.{ℕ, ◌<◌, List, option_map, unwrap_or, slice_get}
use Rattle.service_machine.specs.States.{Slot}
use Rattle.service_machine.specs.Turning.{Choice as Turn}
use Rattle.service_machine.specs.Turning.Choice.{Advance as Moves, Compute, Empty as Lacks, Lags as Trails, Still as Rests}
use Rattle.stamp_match.specs.declared.choices.Choice.{Choice}
use Rattle.stamp_match.specs.declared.choices.Choice.TheVariants.{Advance, Ready, Empty, Lags, Still}

-- the sender of the slot at a place
abbrev pub sender_at : {V : Type 0} → List (Slot V) → ℕ → ℕ
sender_at slots place = unwrap_or (option_map (λ slot. slot.sender) (slice_get slots place)) 0

-- what a turn does, where places stand for their slots
abbrev pub turn_of : {V : Type 0} → List (Slot V) → Choice → Turn
turn_of slots (Advance place) = Moves (sender_at slots place)
turn_of slots Ready = Compute
turn_of slots (Empty place) = Lacks (sender_at slots place)
turn_of slots (Lags place key) = Trails (sender_at slots place) key
turn_of slots Still = Rests

-- the place that is named is one of so many
abbrev pub IsAmong : ℕ → Choice → Type 0
IsAmong count (Advance place) = place < count
IsAmong count Ready = Unit {0}
IsAmong count (Empty place) = place < count
IsAmong count (Lags place key) = place < count
IsAmong count Still = Unit {0}
