use Rattle.std.proofs.Common.{length}
use Rattle.settle_core.proofs.HandToLemmas.{HandsTo}
use Rattle.settle_core.proofs.handing.hand_to_ring.Given as goal

abbrev pub invariant-loop-bytes : goal.invariant-loop-bytes
invariant-loop-bytes l = HandsTo l.to l.fn.node l.fn.end l.node l.end

abbrev pub decreases-loop-bytes : goal.decreases-loop-bytes
decreases-loop-bytes l = length l.node.outbox
