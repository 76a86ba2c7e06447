use Rattle.std.proofs.Common.{arith}
use Rattle.trace_text.proofs.Cuts.{lacks-more}
use Rattle.trace_text.proofs.reading.cutting.cut_at_first.Goals as goal

pub loop-at-preserved : goal.loop-at-preserved
loop-at-preserved c = lacks-more c.args.stop c.args.bytes.now c.loop-at.at 0 (omega arith) c.loop-at.invariant c.if-bytes-at.false
