-- The keys of a set that is one word: the places of its bits that are 1.
use Rattle.std.specs.Prelude.{ℕ, zero, suc, List, [], ◌∷◌, ◌++◌, ◌<◌, ◌==◌, All, if◌then◌else◌}
use Rattle.std.specs.Int.{bit_at}
use Rattle.propagation.specs.Stamps.{Rise}
use Rattle.svc_value.specs.declared.limits.TheConstants.{MAX_SERVICES}

-- the places below n whose bit is 1, rising
unfoldable pub places_below : ℕ → ℕ → List ℕ
places_below zero word = []
places_below (suc n) word = if bit_at word n == 1 then places_below n word ++ n ∷ [] else places_below n word

-- the places whose bit is 1 in a word of 64 bits
unfoldable pub places : ℕ → List ℕ
places word = places_below 64 word

-- the keys rise and are below 64
pub record AreKeys (keys : List ℕ) : Type 0 where
  pub rise : Rise 0 keys
  pub below : All (λ key. key < MAX_SERVICES) keys
