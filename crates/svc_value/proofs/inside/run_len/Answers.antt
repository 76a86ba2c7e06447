use Rattle.std.proofs.Common.{arith}
use Rattle.std.proofs.lemmas.Str.{IsCharBoundary-from_drop}
use Rattle.svc_value.proofs.InsideRuns.{none_stays}
use Rattle.svc_value.proofs.inside.run_len.Goals as goal

pub returns-else-len-room-clause-boundary : goal.returns-else-len-room-clause-boundary
returns-else-len-room-clause-boundary c = IsCharBoundary-from_drop c.args.text.now 0 (omega arith) c.requires

pub returns-in-Printed-clause-boundary : goal.returns-in-Printed-clause-boundary
returns-in-Printed-clause-boundary c = IsCharBoundary-from_drop c.args.text.now 0 (omega arith) c.requires

pub returns-in-Open : goal.returns-in-Open
returns-in-Open c = record {
  fits = omega arith;
  boundary = IsCharBoundary-from_drop c.args.text.now 0 (omega arith) c.requires;
  stays = none_stays c.args.form c.args.inside;
}
