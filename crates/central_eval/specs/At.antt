-- Stamps beside what a service rests on at their clocks.
use Rattle.std.specs.Prelude.{ℕ, ◌<◌, ◌≤◌, List}
use Rattle.propagation.specs.History.{Reach, now}
use Rattle.propagation.specs.Rules.{TrueOf}
use Rattle.propagation.specs.Stamps.{Stamps, clock_of}
use Rattle.svc_graph.specs.History.{Row, theory}
use Rattle.svc_value.specs.declared.value.Value.{Value}

-- no clock is past its service's
abbrev pub AreInTime : List Row → Stamps → Type 0
AreInTime rows stamps = (q : ℕ) → clock_of stamps q ≤ now (theory rows) q

-- the keys are just the services that service n rests on at the clocks
pub record AreReached (rows : List Row) (n : ℕ) (stamps : Stamps) : Type 0 where
  pub no_more : (q : ℕ) → 0 < clock_of stamps q → Reach (theory rows) (clock_of stamps) n q
  pub no_less : (q : ℕ) → Reach (theory rows) (clock_of stamps) n q → 0 < clock_of stamps q

-- the value with these stamps is a true emission of service n
abbrev pub IsTrueOf : List Row → ℕ → Stamps → Value → Type 0
IsTrueOf rows n stamps value = TrueOf (theory rows) n (record { value = value; stamps = stamps })
