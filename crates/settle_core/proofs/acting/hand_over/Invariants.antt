use Rattle.std.proofs.Common.{length}
use Rattle.settle_core.proofs.HandingLemmas.{Handing}
use Rattle.settle_core.proofs.acting.hand_over.Given as goal

abbrev pub invariant-loop-outgoing_frame : goal.invariant-loop-outgoing_frame
invariant-loop-outgoing_frame l = Handing l.from l.fn.node l.fn.links.items l.node l.links.items

abbrev pub decreases-loop-outgoing_frame : goal.decreases-loop-outgoing_frame
decreases-loop-outgoing_frame l = length l.node.outbox
