use Rattle.std.proofs.Common.{◌≡◌, ℕ, ◌+◌, ◌<◌, false, length, slice_index_or, None}
use Rattle.propagation.specs.Stamps.{IsRising}
use Rattle.service_machine.specs.States.{raise}
use Rattle.stamp_clock.proofs.FloorLemmas.{ArePairs}
use Rattle.stamp_match.specs.Kept.{head_stamps, IsFollowed}
use Rattle.stamp_match.proofs.following.raise_keys.Given as goal

-- what is left to walk over
abbrev pub invariant-loop-key : goal.invariant-loop-key
invariant-loop-key g l = record {
  pairs : ArePairs l.key-iterator;
  rising : IsRising 0 l.greatest_clocks;
  raised : raise l.greatest_clocks l.key-iterator ≡ raise l.initial.greatest_clocks l.stamps;
  looks : l.looks + length l.key-iterator ≡ l.initial.looks + length l.stamps;
  followed : (place : ℕ) → place < length l.slots →
      IsFollowed l.initial.greatest_clocks (slice_index_or l.initial.lagging place false) (slice_index_or (head_stamps l.slots) place None) →
      IsFollowed l.greatest_clocks (slice_index_or l.lagging place false) (slice_index_or (head_stamps l.slots) place None);
}
