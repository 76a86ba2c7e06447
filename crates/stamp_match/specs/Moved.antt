-- A step of a matcher, and the first slot that lags.
use Rattle.std.specs.Prelude.{◌≡◌, ◌≢◌, ℕ, ◌<◌, max, false, List, length, Option, slice_get, slice_index_or}
use Rattle.std.proofs.Common.{Some, None}
use Rattle.propagation.specs.Stamps.{Stamps, clock_of, IsRising}
use Rattle.service_machine.specs.States.{Slot}
use Rattle.service_machine.specs.Turning.{head_lag, lagging}
use Rattle.stamp_match.specs.Kept.{clock_in, lags, IsRisingHead, IsFollowed}
use Rattle.stamp_match.specs.declared.matcher.Matcher.{Matcher}
use Rattle.svc_value.specs.declared.limits.TheConstants.{MAX_DEPENDENCIES}

-- the greatest clocks took those of the head at the place, and the flags follow
pub record IsRaised (heads : List (Option Stamps)) (place : ℕ) (old new : Matcher) : Type 0 where
  pub places : length new.lagging ≡ MAX_DEPENDENCIES
  pub rising : IsRising 0 new.greatest_clocks
  pub raised : (q : ℕ) → clock_of new.greatest_clocks q ≡ max (clock_of old.greatest_clocks q) (clock_in (slice_index_or heads place None) q)
  pub followed : (other : ℕ) → other < length heads →
      IsFollowed old.greatest_clocks (slice_index_or old.lagging other false) (slice_index_or heads other None) →
      IsFollowed new.greatest_clocks (slice_index_or new.lagging other false) (slice_index_or heads other None)

-- and the flag of that head is found
pub record IsMoved (heads : List (Option Stamps)) (place : ℕ) (old new : Matcher) : Type 0 where
  pub places : length new.lagging ≡ MAX_DEPENDENCIES
  pub rising : IsRising 0 new.greatest_clocks
  pub head : IsRisingHead (slice_index_or heads place None)
  pub raised : (q : ℕ) → clock_of new.greatest_clocks q ≡ max (clock_of old.greatest_clocks q) (clock_in (slice_index_or heads place None) q)
  pub others : (other : ℕ) → other < length heads → other ≢ place →
      IsFollowed old.greatest_clocks (slice_index_or old.lagging other false) (slice_index_or heads other None) →
      IsFollowed new.greatest_clocks (slice_index_or new.lagging other false) (slice_index_or heads other None)
  pub own : slice_index_or new.lagging place false ≡ lags new.greatest_clocks (slice_index_or heads place None)

-- the slot at the place is the first whose head lags
pub record Leads {V : Type 0} (greatest_clocks : Stamps) (slots : List (Slot V)) (place : ℕ) : Type 0 where
  pub slot : Slot V
  pub key : ℕ
  pub within : place < length slots
  pub at : slice_get slots place ≡ Some slot
  pub lags : head_lag greatest_clocks slot.head ≡ Some key
  pub first : lagging greatest_clocks slots ≡ Some (slot, key)
