use Rattle.std.proofs.Common.{arith}
use Rattle.pred_queue.proofs.ToldLemmas.{bad-here, bad-next}
use Rattle.pred_queue.proofs.announced.first_outside.Goals as goal

pub returns-then-place-count : goal.returns-then-place-count
returns-then-place-count g c = bad-here c.args.count (g.L.ClocksRef.named c.args.named.now) c.loop-i.i c.nth-place.result (omega (arith, c.count-i-end.ensures)) c.nth-place.ensures c.loop-i.invariant (omega arith)

pub loop-i-preserved : goal.loop-i-preserved
loop-i-preserved g c = bad-next c.args.count (g.L.ClocksRef.named c.args.named.now) c.loop-i.i c.nth-place.result (omega (arith, c.count-i-end.ensures)) c.nth-place.ensures c.loop-i.invariant (omega arith)
