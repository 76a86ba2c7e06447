use Rattle.std.proofs.Common.{arith, Some, None}
use Rattle.node_core.proofs.OutboxLemmas.{posted_out, last_out}
use Rattle.node_core.proofs.ShortLemmas.{short_out}
use Rattle.node_core.proofs.journal.Journal.next_out.Goals as goal

pub invariant_of-self : goal.invariant_of-self
invariant_of-self c =
    record {
      posted = posted_out c.self.inside.log.items c.args.to c.self.inside.outbox.items c.take_out.new.outbox.items None c.in_err-frame.ensures.taken c.self.invariant.posted;
      short = c.self.invariant.short;
      room = omega (arith, c.self.invariant.room, c.in_err-frame.ensures.taken.count, c.in_err-frame.ensures.capacity);
    }

pub invariant_of-self-2 : goal.invariant_of-self-2
invariant_of-self-2 c =
    record {
      posted = posted_out c.self.inside.log.items c.args.to c.self.inside.outbox.items c.take_out.new.outbox.items (Some c.in_ok-frame.frame) c.in_ok-frame.ensures.taken c.self.invariant.posted;
      short = c.self.invariant.short;
      room = omega (arith, c.self.invariant.room, c.in_ok-frame.ensures.taken.count, c.in_ok-frame.ensures.capacity);
    }

pub returns-clause-last : goal.returns-clause-last
returns-clause-last c =
    last_out c.self.inside.log.items c.args.to c.self.inside.outbox.items c.take_out.new.outbox.items c.in_ok-frame.frame c.in_ok-frame.ensures.taken c.self.invariant.posted

pub returns-clause-short : goal.returns-clause-short
returns-clause-short c =
    short_out c.args.to c.in_ok-frame.frame c.self.inside.log.items c.take_out.new.outbox.items
    (last_out c.self.inside.log.items c.args.to c.self.inside.outbox.items c.take_out.new.outbox.items c.in_ok-frame.frame c.in_ok-frame.ensures.taken c.self.invariant.posted) c.self.invariant.short
