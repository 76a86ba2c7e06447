-- How far bytes agree with a set of byte lists.
use Rattle.std.specs.Prelude.{ℕ, ◌<◌, ◌≤◌, List, ◌++◌, length, take}

-- the bytes begin some member of the set
pub record Begins (Member : List ℕ → Type 0) (bytes : List ℕ) : Type 0 where
  pub rest : List ℕ
  pub member : Member (bytes ++ rest)

-- the longest front of the bytes that begins some member of the set has this length
pub record IsPlace (Member : List ℕ → Type 0) (bytes : List ℕ) (place : ℕ) : Type 0 where
  pub within : place ≤ length bytes
  pub begins : Begins Member (take place bytes)
  pub longest : (n : ℕ) → place < n → n ≤ length bytes → ¬ (Begins Member (take n bytes))

-- the bytes are no member of the set; the place is how far they begin one
pub record IsRefusedAt (Member : List ℕ → Type 0) (bytes : List ℕ) (place : ℕ) : Type 0 where
  pub none : ¬ (Member bytes)
  pub at : IsPlace Member bytes place
