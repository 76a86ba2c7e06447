-- A table that has a clock for each service, or 0.
use Rattle.std.specs.Prelude.{ℕ, suc, List, [], ◌∷◌, ◌==◌, if◌then◌else◌}
use Rattle.propagation.specs.Stamps.{Stamps}

-- the clocks that are not 0, each with its place, counted from `first` on
abbrev pub raised_clocks : ℕ → List ℕ → Stamps
raised_clocks first [] = []
raised_clocks first (clock ∷ rest) = if clock == 0 then raised_clocks (suc first) rest else (first, clock) ∷ raised_clocks (suc first) rest
