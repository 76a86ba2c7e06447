use Rattle.std.proofs.Common.{◌≡◌, drop, length}
use Rattle.wire_frame.specs.Frames.{pairs}
use Rattle.pred_queue.specs.Told.{rewritten}
use Rattle.pred_queue.proofs.announced.with_clocks.Given as goal

abbrev pub invariant-loop-i : goal.invariant-loop-i
invariant-loop-i g l = (rewritten (pairs (drop l.i (g.L.ClocksRef.named l.named))) l.clocks.items ≡ rewritten (pairs (g.L.ClocksRef.named l.named)) l.fn.clocks.items) × (length l.clocks.items ≡ length l.fn.clocks.items)
