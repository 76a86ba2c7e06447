use Rattle.std.proofs.Common.{length}
use Rattle.svc_value.proofs.InsideRuns.{plain_front}
use Rattle.svc_value.proofs.inside.plain_len.Goals as goal

pub returns-in-Some-clause-plain : goal.returns-in-Some-clause-plain
returns-in-Some-clause-plain c = let found = c.in-Some.ensures in plain_front c.args.text.now c.in-Some.len found.0.before

pub returns-in-None-clause-plain : goal.returns-in-None-clause-plain
returns-in-None-clause-plain c = let none = c.in-None.ensures in plain_front c.args.text.now (length c.args.text.now) none
