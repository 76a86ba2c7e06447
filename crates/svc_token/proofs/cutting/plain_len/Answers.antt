use Rattle.std.proofs.Common.{length, arith, le_refl}
use Rattle.svc_token.proofs.QuotedLemmas.{plain_passed, stops_there, ends_there}
use Rattle.svc_token.proofs.cutting.plain_len.Goals as goal

pub returns-in-Some-clause-passed : goal.returns-in-Some-clause-passed
returns-in-Some-clause-passed c n = let found = c.in-Some.ensures in plain_passed c.args.bytes.now c.in-Some.len n (omega (arith, found.0.high)) found.0.before

pub returns-in-Some-clause-stops : goal.returns-in-Some-clause-stops
returns-in-Some-clause-stops c = let found = c.in-Some.ensures in stops_there c.args.bytes.now c.in-Some.len found.0.high found.1

pub returns-in-None-clause-passed : goal.returns-in-None-clause-passed
returns-in-None-clause-passed c n = let none = c.in-None.ensures in plain_passed c.args.bytes.now (length c.args.bytes.now) n (le_refl (length c.args.bytes.now)) none

pub returns-in-None-clause-stops : goal.returns-in-None-clause-stops
returns-in-None-clause-stops c = ends_there c.args.bytes.now
