use Rattle.std.proofs.Common.{◌≡◌, ℕ, length, slice_index_or, None}
use Rattle.settle_core.proofs.parting.nothing.Given as goal

abbrev pub invariant-loop : goal.invariant-loop
invariant-loop g l = (length l.all.items ≡ l.counter) × ((q : ℕ) → slice_index_or l.all.items q None ≡ None)
