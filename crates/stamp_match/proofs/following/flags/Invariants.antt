use Rattle.std.proofs.Common.{◌≡◌, ℕ, ◌+◌, ◌<◌, ◌≤◌, false, drop, length, slice_index_or, None}
use Rattle.stamp_match.specs.Kept.{head_stamps, lags, IsRisingHead}
use Rattle.stamp_match.specs.Looks.{head_keys}
use Rattle.stamp_match.proofs.following.flags.Given as goal

-- the flags of the first ones are found
abbrev pub invariant-loop-place : goal.invariant-loop-place
invariant-loop-place g l = record {
  places : length l.lagging ≡ 16;
  found : (i : ℕ) → i < l.place → slice_index_or l.lagging i false ≡ lags l.greatest_clocks (slice_index_or (head_stamps l.slots) i None);
  rising : (i : ℕ) → i < l.place → IsRisingHead (slice_index_or (head_stamps l.slots) i None);
  looks : l.looks + head_keys (drop l.place l.slots) ≤ l.initial.looks + head_keys l.slots;
}
