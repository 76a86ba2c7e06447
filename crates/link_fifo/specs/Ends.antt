-- What contracts see of the ends that carry items.
use Rattle.std.specs.Prelude.{ℕ, List}
use Rattle.link_fifo.specs.declared.piece_out.PieceOut.{PieceOut}
use Rattle.link_fifo.specs.declared.piece_in.PieceIn.{PieceIn}
use Rattle.link_fifo.specs.declared.ring.RingOut.{RingOut}
use Rattle.link_fifo.specs.declared.ring.RingIn.{RingIn}
use Rattle.link_fifo.specs.Ring.{ring_sent, ring_received, ring_room, ring_known, OneRing, SameOut, SameIn}
use Rattle.link_fifo.specs.Cuts.{sent_items, received_items}
use Rattle.link_fifo.specs.Kept.{bytes_kept}

-- every item taken so far, oldest first: those of the pieces pushed and what is kept
abbrev pub items_sent : PieceOut → List (List ℕ)
items_sent end = sent_items (ring_sent end.out) (bytes_kept end.kept)

-- every piece pushed so far, oldest first
abbrev pub pieces_sent : PieceOut → List (List ℕ)
pieces_sent end = ring_sent end.out

-- the bytes that are kept: what is left of the last item behind its length
abbrev pub kept_bytes : PieceOut → List ℕ
kept_bytes end = bytes_kept end.kept

-- how many slots the end knows to be free
abbrev pub room : PieceOut → ℕ
room end = ring_room end.out

-- every item answered so far, oldest first: those of the pieces popped before what is held
abbrev pub items_received : PieceIn → List (List ℕ)
items_received end = received_items (ring_received end.into) end.cutter.held

-- every piece popped so far, oldest first
abbrev pub pieces_received : PieceIn → List (List ℕ)
pieces_received end = ring_received end.into

-- the bytes that were popped and are not answered
abbrev pub held_bytes : PieceIn → List ℕ
held_bytes end = end.cutter.held

-- the offset of the first of them in all that was popped
abbrev pub offset_of : PieceIn → ℕ
offset_of end = end.cutter.offset

-- the pieces that the end knows to wait in the ring
abbrev pub known_pieces : PieceIn → List (List ℕ)
known_pieces end = ring_known end.into

-- the two ends of one ring
abbrev pub OneStream : PieceOut → PieceIn → Type 0
OneStream a b = OneRing a.out b.into

-- the end that was made of this ring end
abbrev pub IsWriterOf : RingOut → PieceOut → Type 0
IsWriterOf out end = SameOut out end.out

-- and the end that items are read from
abbrev pub IsReaderOf : RingIn → PieceIn → Type 0
IsReaderOf into end = SameIn into end.into

-- the same end of the same ring
abbrev pub SameWriter : PieceOut → PieceOut → Type 0
SameWriter old new = SameOut old.out new.out

-- the same of the ends that items are read from
abbrev pub SameReader : PieceIn → PieceIn → Type 0
SameReader old new = SameIn old.into new.into
