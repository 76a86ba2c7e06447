-- What `choose` finds among slots, kept up to date.
use Rattle.std.specs.Prelude.{◌≡◌, ℕ, ◌<◌, ◌≤◌, max, Bool, false, List, [], ◌∷◌, map, length, Option, option_map, is_some, slice_index_or}
use Rattle.std.proofs.Common.{Some, None}
use Rattle.propagation.specs.Stamps.{Stamps, clock_of, IsRising}
use Rattle.service_machine.specs.States.{Slot, empty_slot}
use Rattle.service_machine.specs.Turning.{lag}
use Rattle.stamp_match.specs.declared.matcher.Matcher.{Matcher}
use Rattle.svc_value.specs.declared.limits.TheConstants.{MAX_DEPENDENCIES}

-- the slot at a place
abbrev pub slot_in : {V : Type 0} → List (Slot V) → ℕ → Slot V
slot_in slots place = slice_index_or slots place (empty_slot 0)

-- the stamps of each slot's head
abbrev pub head_stamps : {V : Type 0} → List (Slot V) → List (Option Stamps)
head_stamps slots = map (λ slot. option_map (λ head. head.emission.stamps) slot.head) slots

-- the clock of a key in the stamps of a head, or 0
abbrev pub clock_in : Option Stamps → ℕ → ℕ
clock_in None q = 0
clock_in (Some S) q = clock_of S q

-- the greatest clock of a key in the floor and in the heads
abbrev pub greatest : Stamps → List (Option Stamps) → ℕ → ℕ
greatest floor [] q = clock_of floor q
greatest floor (head ∷ rest) q = max (clock_in head q) (greatest floor rest q)

-- whether a head has a clock below the one of `greatest_clocks`
abbrev pub lags : Stamps → Option Stamps → Bool
lags greatest_clocks None = false
lags greatest_clocks (Some S) = is_some (lag greatest_clocks S)

-- the keys of a head rise
abbrev pub IsRisingHead : Option Stamps → Type 0
IsRisingHead None = Unit {0}
IsRisingHead (Some S) = IsRising 0 S

-- and those of each of these heads
abbrev pub AreRisingHeads : List (Option Stamps) → Type 0
AreRisingHeads [] = Unit {0}
AreRisingHeads (head ∷ rest) = IsRisingHead head × AreRisingHeads rest

-- no clock of the head is above the one of `greatest_clocks`, and the flag says whether one is below it
pub record IsFollowed (greatest_clocks : Stamps) (flagged : Bool) (head : Option Stamps) : Type 0 where
  pub rising : IsRisingHead head
  pub within : (q : ℕ) → clock_in head q ≤ clock_of greatest_clocks q
  pub flag : flagged ≡ lags greatest_clocks head

-- for each key the greatest clock of the floor and of these heads, and which of the heads lag
pub record IsKept (heads : List (Option Stamps)) (floor : Stamps) (matcher : Matcher) : Type 0 where
  pub few : length heads ≤ MAX_DEPENDENCIES
  pub places : length matcher.lagging ≡ MAX_DEPENDENCIES
  pub floor_rises : IsRising 0 floor
  pub heads_rise : AreRisingHeads heads
  pub tops_rise : IsRising 0 matcher.greatest_clocks
  pub greatest_clocks : (q : ℕ) → clock_of matcher.greatest_clocks q ≡ greatest floor heads q
  pub lagging : (place : ℕ) → place < length heads → slice_index_or matcher.lagging place false ≡ lags matcher.greatest_clocks (slice_index_or heads place None)

-- the same of slots: it depends on the stamps of their heads alone
abbrev pub IsMatcherOf : {V : Type 0} → List (Slot V) → Stamps → Matcher → Type 0
IsMatcherOf slots floor matcher = IsKept (head_stamps slots) floor matcher
