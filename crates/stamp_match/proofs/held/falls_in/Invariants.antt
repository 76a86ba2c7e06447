use Rattle.std.proofs.Common.{◌≡◌, ℕ, ◌+◌, length}
use Rattle.propagation.specs.Lists.{Has}
use Rattle.stamp_match.proofs.HeldLemmas.{AreOver}
use Rattle.stamp_match.proofs.held.falls_in.Given as goal

-- the keys to come are some of those that are held, and none of the others falls
abbrev pub invariant-loop-key : goal.invariant-loop-key
invariant-loop-key g l = record {
  some : (q : ℕ) → Has l.key-iterator q → Has l.fn.held q;
  over : AreOver l.greatest_clocks l.fn.held l.stamps l.key-iterator;
  looks : l.looks + length l.key-iterator ≡ l.fn.looks + length l.fn.held;
}
