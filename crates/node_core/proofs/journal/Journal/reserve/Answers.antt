use Rattle.std.proofs.Common.{arith, refl}
use Rattle.node_core.proofs.OutboxLemmas.{posted_same}
use Rattle.node_core.proofs.ShortLemmas.{short_same}
use Rattle.node_core.proofs.journal.Journal.reserve.Goals as goal

pub invariant_of-self-in_err-reserve : goal.invariant_of-self-in_err-reserve
invariant_of-self-in_err-reserve c =
    record {
      posted = posted_same _ _ c.self.inside.outbox.items _ c.reserve.ensures.items refl c.self.invariant.posted;
      short = short_same _ _ c.reserve.ensures.items c.self.invariant.short;
      room = c.self.invariant.room;
    }

pub invariant_of-self-in_err-reserve-2 : goal.invariant_of-self-in_err-reserve-2
invariant_of-self-in_err-reserve-2 c =
    record {
      posted = posted_same _ _ _ _ c.reserve.ensures.items c.reserve-2.ensures.items c.self.invariant.posted;
      short = short_same _ _ c.reserve.ensures.items c.self.invariant.short;
      room = omega (arith, c.self.invariant.room, c.reserve-2.ensures.len, c.reserve-2.ensures.capacity);
    }

pub invariant_of-self-2 : goal.invariant_of-self-2
invariant_of-self-2 c =
    record {
      posted = posted_same _ _ _ _ c.reserve.ensures.items c.reserve-2.ensures.items c.self.invariant.posted;
      short = short_same _ _ c.reserve.ensures.items c.self.invariant.short;
      room = omega (arith, c.self.invariant.room, c.reserve-2.ensures.len, c.reserve-2.ensures.capacity);
    }
