-- Ends of rings that there may be.
use Rattle.std.specs.Prelude.{ℕ, ◌+◌, List, [], ◌∷◌, Option, None, Some}
use Rattle.link_fifo.specs.Ends.{items_sent, items_received, OneStream, SameWriter, SameReader}
use Rattle.link_fifo.specs.declared.piece_in.PieceIn.{PieceIn}
use Rattle.link_fifo.specs.declared.piece_out.PieceOut.{PieceOut}

-- the items that were handed to an end
abbrev pub handed_to : Option PieceOut → List (List ℕ)
handed_to None = []
handed_to (Some end) = items_sent end

-- the items that were received at an end
abbrev pub received_from : Option PieceIn → List (List ℕ)
received_from None = []
received_from (Some end) = items_received end

-- the numbers of the places that have an end, rising; the first place has this number
abbrev pub ringed : ℕ → List (Option PieceOut) → List ℕ
ringed k [] = []
ringed k (None ∷ ends) = ringed (k + 1) ends
ringed k (Some end ∷ ends) = k ∷ ringed (k + 1) ends

-- the two ends of one ring, or none
abbrev pub IsTied : Option PieceOut → Option PieceIn → Type 0
IsTied None None = Unit {0}
IsTied (Some out) (Some into) = OneStream out into
IsTied out into = ⊥

-- the same end of the same ring, or none as before
abbrev pub SameTo : Option PieceOut → Option PieceOut → Type 0
SameTo None None = Unit {0}
SameTo (Some old) (Some new) = SameWriter old new
SameTo old new = ⊥

abbrev pub SameFrom : Option PieceIn → Option PieceIn → Type 0
SameFrom None None = Unit {0}
SameFrom (Some old) (Some new) = SameReader old new
SameFrom old new = ⊥
