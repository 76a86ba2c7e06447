use Rattle.std.proofs.Common.{◌≡◌, ◌≤◌, ◌+◌, ◌++◌, drop, length, vec_len, vec_capacity}
use Rattle.propagation.specs.Lists.{AreDistinct}
use Rattle.service_machine.specs.Steps.{cut_to, cut_others, targets}
use Rattle.node_core.specs.View.{senders}
use Rattle.node_core.proofs.rewiring.rewire_slots.Given as goal

abbrev pub invariant-loop-i : goal.invariant-loop-i
invariant-loop-i l =
    record {
      same : l.new.items ++ (cut_to (drop l.i l.edges) l.clock l.old.items ++ cut_others (targets (drop l.i l.edges)) l.clock l.old.items) ≡ cut_to l.edges l.clock l.fn.old.items ++ cut_others (targets l.edges) l.clock l.fn.old.items;
      senders : AreDistinct (senders l.old.items);
      targets : AreDistinct (targets (drop l.i l.edges));
      len : vec_len l.new ≡ l.i;
      room : length l.edges + vec_len l.old ≤ vec_capacity l.new;
    }
