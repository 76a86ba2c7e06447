use Rattle.std.proofs.Common.{◌≡◌, ℕ, ◌+◌, ◌≤◌, length}
use Rattle.propagation.specs.Stamps.{clock_of}
use Rattle.propagation.specs.Lists.{Has}
use Rattle.stamp_clock.proofs.FloorLemmas.{ArePairs}
use Rattle.stamp_match.proofs.HeldLemmas.{AreFound, AreOf, AreBefore}
use Rattle.stamp_match.proofs.held.held_in.Given as goal

-- each key is still to come, or is held if it has to be
abbrev pub invariant-loop-key : goal.invariant-loop-key
invariant-loop-key g l = record {
  pairs : ArePairs l.key-iterator;
  of : AreOf l.stamps l.key-iterator;
  before : AreBefore l.held l.key-iterator;
  found : AreFound l.greatest_clocks l.floor l.stamps l.key-iterator l.held;
  only : (q : ℕ) → Has l.held q → clock_of l.greatest_clocks q ≤ clock_of l.stamps q;
  few : length l.held + length l.key-iterator ≤ length l.stamps;
  looks : l.looks + length l.key-iterator ≡ l.initial.looks + length l.stamps;
}
