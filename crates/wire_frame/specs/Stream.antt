-- A stream of items, each after its length in two bytes.
use Rattle.std.specs.Prelude.{◌≡◌, ℕ, zero, suc, ◌+◌, ◌*◌, ◌/◌, ◌%◌, ◌<◌, ◌≤◌, ◌⊎◌, Bool, ◌&&◌, cond, nat_le, List, [], ◌∷◌, ◌++◌, length, get_or, take, drop, All, flat_map}
use Rattle.svc_value.specs.declared.limits.TheConstants.{MAX_FRAME_LEN}

-- an item on the stream: its length, the greater byte first, then its bytes
abbrev pub framed_item : List ℕ → List ℕ
framed_item item = (length item / 256) ∷ (length item % 256) ∷ item

-- no item is longer
abbrev pub IsItem : List ℕ → Type 0
IsItem item = length item ≤ MAX_FRAME_LEN

abbrev pub IsByte : ℕ → Type 0
IsByte b = b < 256

-- the length that stands in front
abbrev pub size_at : List ℕ → ℕ
size_at bytes = get_or bytes 0 0 * 256 + get_or bytes 1 0

-- a length stands in front that no item has
abbrev pub IsTooLong : List ℕ → Type 0
IsTooLong bytes = (2 ≤ length bytes) × (MAX_FRAME_LEN < size_at bytes)

-- less than a length and its item, and no length that is too great
abbrev pub IsPartial : List ℕ → Type 0
IsPartial bytes = (length bytes < 2) ⊎ ((size_at bytes ≤ MAX_FRAME_LEN) × (length bytes < size_at bytes + 2))

-- this item stands in front, and is whole
pub record IsFront (bytes item : List ℕ) : Type 0 where
  pub whole : bytes ≡ framed_item item ++ drop (length item + 2) bytes
  pub fits : IsItem item

-- the stream is these items and then this rest, with which no item begins
pub record Splits (stream : List ℕ) (items : List (List ℕ)) (rest : List ℕ) : Type 0 where
  pub whole : stream ≡ flat_map framed_item items ++ rest
  pub each : All IsItem items
  pub stuck : IsPartial rest ⊎ IsTooLong rest

-- a whole item stands in front
abbrev pub begins : List ℕ → Bool
begins bytes = nat_le 2 (length bytes) && (nat_le (size_at bytes) MAX_FRAME_LEN && nat_le (size_at bytes + 2) (length bytes))

-- the first items of a stream, at most so many
unfoldable pub items_in : ℕ → List ℕ → List (List ℕ)
items_in zero bytes = []
items_in (suc n) bytes = cond (begins bytes) (take (size_at bytes) (drop 2 bytes) ∷ items_in n (drop (size_at bytes + 2) bytes)) []

-- the items of a stream, up to a rest with which no item begins
unfoldable pub items_of : List ℕ → List (List ℕ)
items_of bytes = items_in (length bytes) bytes
