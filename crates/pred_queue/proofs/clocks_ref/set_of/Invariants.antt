use Rattle.std.proofs.Common.{◌≡◌, ℕ, ◌<◌, ◌++◌}
use Rattle.propagation.specs.Lists.{Has}
use Rattle.pred_queue.proofs.clocks_ref.set_of.Given as goal

-- the keys that are in the set, and those to come, which are below 64
abbrev pub invariant-loop-key : goal.invariant-loop-key
invariant-loop-key l = record {
  whole : l.set ++ l.key-iterator ≡ l.fn.keys;
  below : (q : ℕ) → Has l.key-iterator q → q < 64;
}
