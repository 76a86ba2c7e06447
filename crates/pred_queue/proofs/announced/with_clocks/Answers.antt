use Rattle.std.proofs.Common.{◌∙◌, arith, length-set}
use Rattle.pred_queue.proofs.ToldLemmas.{rewritten-next}
use Rattle.pred_queue.proofs.announced.with_clocks.Goals as goal

pub loop-i-preserved : goal.loop-i-preserved
loop-i-preserved g c = (
  rewritten-next (g.L.ClocksRef.named c.args.named.now) c.loop-i.i c.nth-one.result c.loop-i.clocks.items c.args.clocks.items (omega (arith, c.count-i-end.ensures)) c.nth-one.ensures c.loop-i.invariant.0,
  length-set c.loop-i.clocks.items c.nth-one.result.place c.nth-one.result.clock ∙ c.loop-i.invariant.1,
)
