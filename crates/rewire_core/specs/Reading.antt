-- Who reads a service, and who ever did.
use Rattle.std.specs.Prelude.{ℕ, List}

-- the present readers, each with its epoch, and the last epoch of each service that ever read
pub record Reading : Type 0 where
  pub present : List (ℕ × ℕ)
  pub past : List (ℕ × ℕ)
