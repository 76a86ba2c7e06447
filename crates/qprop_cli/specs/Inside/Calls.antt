-- A call that ends an opened leg.
use Rattle.std.specs.Prelude.{◌≡◌, true, Result, IfOk}
use Rattle.settle_core.specs.Net.{NetworkView}
use Rattle.settle_core.specs.Quiet.{is_quiet}
use Rattle.settle_core.specs.Workers.{HasBegun, SameLeg}

-- it takes each network whose leg has begun, and hands it back in the same leg, in which nothing is left to do
pub record EndsLegs {F E : Type 0} (pre : F → NetworkView → Type 0) (post : F → NetworkView → Result NetworkView E → Type 0) (call : F) : Type 0 where
  pub takes : (network : NetworkView) → HasBegun network → pre call network
  pub ends : (network : NetworkView) (result : Result NetworkView E) → HasBegun network → post call network result → IfOk result (λ after. SameLeg network after × (is_quiet after ≡ true))
