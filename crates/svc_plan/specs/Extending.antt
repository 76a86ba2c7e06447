-- How the rows of a book are found again at earlier clocks.
use Rattle.std.specs.Prelude.{ℕ, ◌≤◌, List, [], ◌∷◌, length}
use Rattle.svc_graph.specs.History.{Row}

-- there are no more clocks than rows, and no clock is above its row's
abbrev pub AreWithin : List ℕ → List Row → Type 0
AreWithin [] rows = Unit {0}
AreWithin (clock ∷ clocks) [] = ⊥
AreWithin (clock ∷ clocks) (row ∷ rows) = (clock ≤ length row.history) × AreWithin clocks rows
