-- A stream cut into pieces, and where its items stand.
use Rattle.std.specs.Prelude.{◌≡◌, ℕ, zero, suc, ◌-◌, List, [], ◌∷◌, ◌++◌, length, take, drop, All, flat_map}
use Rattle.wire_frame.specs.Stream.{framed_item, items_of, IsItem}
use Rattle.wire_frame.specs.Cut.{past}
use Rattle.link_fifo.specs.declared.piece.TheConstants.{MAX_PIECE_LEN}

-- a list cut after each 64 bytes, into at most so many pieces
unfoldable pub cuts_in : ℕ → List ℕ → List (List ℕ)
cuts_in zero bytes = []
cuts_in (suc n) [] = []
cuts_in (suc n) (byte ∷ bytes) = take MAX_PIECE_LEN (byte ∷ bytes) ∷ cuts_in n (drop MAX_PIECE_LEN (byte ∷ bytes))

-- a list cut after each 64 bytes
unfoldable pub cuts_of : List ℕ → List (List ℕ)
cuts_of bytes = cuts_in (length bytes) bytes

-- the bytes of pieces
unfoldable pub bytes_of_pieces : List (List ℕ) → List ℕ
bytes_of_pieces pieces = flat_map (λ piece. piece) pieces

-- the pieces of items, none with bytes of two
abbrev pub pieces_of : List (List ℕ) → List (List ℕ)
pieces_of items = flat_map (λ item. cuts_of (framed_item item)) items

-- the items of what was pushed and what is kept
abbrev pub sent_items : List (List ℕ) → List ℕ → List (List ℕ)
sent_items pieces kept = items_of (bytes_of_pieces pieces ++ kept)

-- these pieces, followed by those of what is kept, are the pieces of items
pub record IsSent (pieces : List (List ℕ)) (kept : List ℕ) : Type 0 where
  pub cut : pieces ++ cuts_of kept ≡ pieces_of (sent_items pieces kept)
  pub each : All IsItem (sent_items pieces kept)

-- the bytes in front of those that are held
abbrev pub before : List ℕ → List ℕ → List ℕ
before bytes held = take (length bytes - length held) bytes

-- the items of what was popped and is not held
abbrev pub received_items : List (List ℕ) → List ℕ → List (List ℕ)
received_items pieces held = items_of (before (bytes_of_pieces pieces) held)

-- the bytes of these pieces are items and then what is held
pub record IsRead (pieces : List (List ℕ)) (held : List ℕ) : Type 0 where
  pub whole : bytes_of_pieces pieces ≡ flat_map framed_item (received_items pieces held) ++ held
  pub each : All IsItem (received_items pieces held)

-- these bytes are whole items
pub record IsWhole (bytes : List ℕ) : Type 0 where
  pub whole : bytes ≡ flat_map framed_item (items_of bytes)
  pub each : All IsItem (items_of bytes)

-- the new list has the old one in front
pub record Grows (old new : List (List ℕ)) : Type 0 where
  pub more : List (List ℕ)
  pub is : new ≡ old ++ more

-- the offset of what is held
abbrev pub place_of : List (List ℕ) → List ℕ → ℕ
place_of pieces held = past 0 (length (bytes_of_pieces pieces) - length held)
