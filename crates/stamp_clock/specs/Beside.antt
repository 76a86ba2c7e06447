-- Keys with their clocks in a list beside them.
use Rattle.std.specs.Prelude.{◌≡◌, ℕ, ◌<◌, List, [], ◌∷◌, length, All}
use Rattle.propagation.specs.Stamps.{Stamps, IsRising}
use Rattle.stamp_clock.specs.Places.{AreKeys}
use Rattle.svc_value.specs.declared.limits.TheConstants.{MAX_SERVICES}

-- the keys rise and are below 64, and each has a clock of at least 1
pub record AreBeside (keys clocks : List ℕ) : Type 0 where
  pub are_keys : AreKeys keys
  pub lengths : length keys ≡ length clocks
  pub positive : All (λ clock. 0 < clock) clocks

-- the keys rise and are below 64, and each clock is at least 1
pub record AreStamps (stamps : Stamps) : Type 0 where
  pub rising : IsRising 0 stamps
  pub below : All (λ pair. pair.0 < MAX_SERVICES) stamps

-- the clocks, in the order of their keys
abbrev pub clocks : Stamps → List ℕ
clocks [] = []
clocks (pair ∷ rest) = pair.1 ∷ clocks rest
