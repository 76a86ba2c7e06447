-- Where a greatest clock may fall with a head that goes.
use Rattle.std.specs.Prelude.{ℕ, ◌<◌, ◌≤◌, List, Option}
use Rattle.std.proofs.Common.{Some, None}
use Rattle.propagation.specs.Stamps.{Stamps, clock_of}
use Rattle.propagation.specs.Lists.{Has}
use Rattle.stamp_match.specs.Kept.{clock_in}

-- a head came that has no clock below the one of the head that goes
abbrev pub NoneFalls : Option Stamps → Option Stamps → Type 0
NoneFalls old None = ⊥
NoneFalls old (Some S) = (q : ℕ) → clock_in old q ≤ clock_of S q

-- the head has a greatest clock on these keys, among which is each on which it is above the floor's
pub record AreHeld (greatest_clocks floor : Stamps) (head : Option Stamps) (keys : List ℕ) : Type 0 where
  pub all : (q : ℕ) → clock_of greatest_clocks q ≤ clock_in head q → clock_of floor q < clock_in head q → Has keys q
  pub only : (q : ℕ) → Has keys q → clock_of greatest_clocks q ≤ clock_in head q

-- a head came that has the greatest clock on each of these keys
abbrev pub AreReached : Stamps → List ℕ → Option Stamps → Type 0
AreReached greatest_clocks keys None = ⊥
AreReached greatest_clocks keys (Some S) = (q : ℕ) → Has keys q → clock_of greatest_clocks q ≤ clock_of S q
