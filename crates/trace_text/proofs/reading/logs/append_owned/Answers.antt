use Rattle.std.proofs.Common.{arith}
use Rattle.trace_text.proofs.FamilyReading.{appended}
use Rattle.trace_text.proofs.reading.logs.append_owned.Goals as goal

pub returns-clause-entries : goal.returns-clause-entries
returns-clause-entries c =
    appended c.args.owner c.args.logs.now.items c.grow.new.logs.items c.pop.new.self.items c.push-2.new.self.items c.in-Some.log c.push.new.self c.args.entry c.pop.result
    c.in_ok-grow.ensures.entries (omega (arith, c.in_ok-grow.ensures.long, c.from.ensures)) c.pop.ensures.items c.in-Some.is c.in_ok-push.ensures.ok c.in_ok-push-2.ensures.items
