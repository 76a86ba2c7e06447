use Rattle.svc_value.proofs.LiteralReads.{quoted_ok, quoted_long, quoted_err}
use Rattle.svc_value.proofs.literal.read_text.Goals as goal

pub returns-in-Ok-clause-ok : goal.returns-in-Ok-clause-ok
returns-in-Ok-clause-ok c = quoted_ok c.args.form c.args.text.now c.in-Ok.words c.in-Ok.len c.utf8.text c.in-Ok.ensures c.if-len-text.true

pub returns-in-Ok-2-clause-bad : goal.returns-in-Ok-2-clause-bad
returns-in-Ok-2-clause-bad c = quoted_long c.args.form c.args.text.now c.in-Ok.words c.in-Ok.len c.utf8.text c.in-Ok.ensures c.if-len-text.false

pub returns-in-Err-clause-bad : goal.returns-in-Err-clause-bad
returns-in-Err-clause-bad c = quoted_err c.args.form c.args.text.now c.in-Err.error c.utf8.text c.in-Err.ensures
