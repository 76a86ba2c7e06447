use Rattle.std.proofs.Common.{arith}
use Rattle.qprop_cli.proofs.StreamLemmas.{no_bad, no_longer}
use Rattle.qprop_cli.proofs.commands.frames.stream.whole_frame.Goals as goal

pub returns-in-Ok-2-clause-none : goal.returns-in-Ok-2-clause-none
returns-in-Ok-2-clause-none c _ = no_longer c.args.item.now c.in-Ok.frame c.in-Ok.len (c.in-Ok.ensures.ok) (omega (arith, c.if-len-item.false))

pub returns-in-Err-Bad-clause-none : goal.returns-in-Err-Bad-clause-none
returns-in-Err-Bad-clause-none c _ = no_bad c.args.item.now c.in-Err-Bad.field-0-0 c.in-Err-Bad.field-0-1 (rw c.in-Err-Bad.field-0-is at c.in-Err-Bad.ensures.bad)
