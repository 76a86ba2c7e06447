-- How services are named in a text.
use Rattle.std.specs.Prelude.{◌≡◌, ℕ, ◌<◌, List, [], slice_index_or}
use Rattle.svc_token.specs.Word.{IsName}

-- the name of each service, by its number
abbrev pub Naming : Type 0
Naming = ℕ → List ℕ

-- the first `count` services have names of the document language
abbrev pub AreNamed : Naming → ℕ → Type 0
AreNamed name count = (n : ℕ) → n < count → IsName (name n)

-- so they have, and no two the same
pub record AreNames (name : Naming) (count : ℕ) : Type 0 where
  pub named : AreNamed name count
  pub apart : (n m : ℕ) → n < count → m < count → name n ≡ name m → n ≡ m

-- the names of a list
abbrev pub naming_of : List (List ℕ) → Naming
naming_of names = λ n. slice_index_or names n []
