-- What a call reads from its source and adds to its sink.
use Rattle.std.specs.Prelude.{◌≡◌, ℕ, List, ◌++◌, Option, length, ◌⊎◌, ◌+◌}
use Rattle.std.specs.Io.KnownBytes.{Consumes, IsAtEnd, Appends}

-- the source gave these bytes, and no more are left
abbrev pub ReadsWhole : Option (List ℕ) → Option (List ℕ) → List ℕ → Type 0
ReadsWhole old new bytes = Consumes old new bytes × IsAtEnd new

-- the source gave these bytes: all that it had, or just one more than `most`
abbrev pub ReadsUpTo : ℕ → Option (List ℕ) → Option (List ℕ) → List ℕ → Type 0
ReadsUpTo most old new bytes = Consumes old new bytes × (IsAtEnd new ⊎ (length bytes ≡ most + 1))

-- the sink gained a beginning of the text
pub record AddsBeginning (old new : Option (List ℕ)) (text : List ℕ) : Type 0 where
  pub added : List ℕ
  pub rest : List ℕ
  pub whole : added ++ rest ≡ text
  pub gained : Appends old new added
