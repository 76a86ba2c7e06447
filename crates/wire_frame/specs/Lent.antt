-- What stands in bytes that a frame lends.
use Rattle.std.specs.Prelude.{ℕ, List, [], ◌∷◌}
use Rattle.std.specs.Int.{w16, w32, from_be_bytes}
use Rattle.wire_frame.specs.declared.place_clock.PlaceClock.{PlaceClock}

-- the keys in so many bytes, two bytes each
abbrev pub keys_in : List ℕ → List ℕ
keys_in (high ∷ (low ∷ rest)) = from_be_bytes w16 (high ∷ low ∷ []) ∷ keys_in rest
keys_in _ = []

-- the place in one byte, and its clock in the 4 bytes behind it
abbrev pub named_by : ℕ → List ℕ → PlaceClock
named_by place clock = record { place = place; clock = from_be_bytes w32 clock }

-- the places with their clocks in so many bytes, five bytes each
abbrev pub named_in : List ℕ → List PlaceClock
named_in (place ∷ (a ∷ (b ∷ (c ∷ (d ∷ rest))))) = named_by place (a ∷ b ∷ c ∷ d ∷ []) ∷ named_in rest
named_in _ = []
