-- Lists of names.
use Rattle.std.specs.Prelude.{ℕ, List, [], ◌∷◌}
use Rattle.propagation.specs.Lists.{Has}

-- no name stands twice
abbrev pub Differ : List (List ℕ) → Type 0
Differ [] = Unit {0}
Differ (name ∷ names) = (Has names name → ⊥) × Differ names
