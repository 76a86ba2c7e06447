use Rattle.std.proofs.Common.{◌≡◌, drop}
use Rattle.service_machine.specs.Refusing.{bad_place}
use Rattle.wire_frame.specs.Frames.{pairs}
use Rattle.pred_queue.proofs.announced.first_outside.Given as goal

abbrev pub invariant-loop-i : goal.invariant-loop-i
invariant-loop-i g l = bad_place l.count (pairs (drop l.i (g.L.ClocksRef.named l.named))) ≡ bad_place l.count (pairs (g.L.ClocksRef.named l.named))
