-- Ring ends that take no more.
use Rattle.std.specs.Prelude.{◌≡◌, ◌≢◌, ℕ, List, [], Option, None, Some}
use Rattle.link_fifo.specs.Ends.{room}
use Rattle.link_fifo.specs.declared.piece_out.PieceOut.{PieceOut}

-- frames that are left are left because no room is known at the end, if there is one
abbrev pub IsFull : Option PieceOut → List (List ℕ) → Type 0
IsFull None frames = Unit {0}
IsFull (Some end) frames = frames ≢ [] → room end ≡ 0
