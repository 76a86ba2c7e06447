use Rattle.std.proofs.Common.{length}
use Rattle.settle_core.proofs.RestLemmas.{HandsSome}
use Rattle.settle_core.proofs.joining.hand_rest.Given as goal

abbrev pub invariant-loop-outgoing_frame : goal.invariant-loop-outgoing_frame
invariant-loop-outgoing_frame l = HandsSome l.from l.fn.node l.node l.fn.links.items l.links.items

abbrev pub decreases-loop-outgoing_frame : goal.decreases-loop-outgoing_frame
decreases-loop-outgoing_frame l = length l.node.outbox
