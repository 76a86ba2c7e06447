use Rattle.std.proofs.Common.{◌≡◌, ℕ, ◌<◌, ◌≤◌, ◌||◌, false, nat_lt, slice_index_or, None}
use Rattle.stamp_match.specs.Kept.{head_stamps, clock_in}
use Rattle.stamp_match.proofs.following.mark.Given as goal

-- the first ones are marked, and the others are as they were
abbrev pub invariant-loop-place : goal.invariant-loop-place
invariant-loop-place l = record {
  marked : (i : ℕ) → i < l.place → slice_index_or l.lagging i false ≡ (slice_index_or l.fn.lagging i false || nat_lt 0 (clock_in (slice_index_or (head_stamps l.slots) i None) l.key));
  left : (i : ℕ) → l.place ≤ i → slice_index_or l.lagging i false ≡ slice_index_or l.fn.lagging i false;
}
