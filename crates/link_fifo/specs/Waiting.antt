-- A link in memory, as contracts see it.
use Rattle.std.specs.Prelude.{ℕ, List, Option, None, Some, [], ◌∷◌}

-- the items pushed and not popped, oldest first, and how many more are known to fit
pub record Link : Type 0 where
  pub waiting : List (List ℕ)
  pub spare : ℕ

-- the first item of those that wait
abbrev pub first_of : List (List ℕ) → Option (List ℕ)
first_of [] = None
first_of (item ∷ items) = Some item
