use Rattle.std.proofs.Common.{◌≡◌, ◌+◌, ◌++◌, length, vec_len, vec_capacity}
use Rattle.node_core.specs.Rewiring.{cut_rest}
use Rattle.node_core.proofs.rewiring.cut_all.Given as goal

abbrev pub invariant-loop-slot : goal.invariant-loop-slot
invariant-loop-slot l =
    (l.new.items ≡ l.fn.new.items ++ cut_rest l.clock l.yielded) × (vec_capacity l.new ≡ vec_capacity l.fn.new) × (vec_len l.new ≡ vec_len l.fn.new + length l.yielded)
