use Rattle.std.proofs.Common.{ℕ, arith, Some, subst, List}
use Rattle.node_core.specs.View.{IsPosted}
use Rattle.node_core.proofs.OutboxLemmas.{posted_out, pops_out, last_out}
use Rattle.node_core.proofs.ShortLemmas.{short_out}
use Rattle.node_core.proofs.journal.Journal.pop_out.Goals as goal

pub invariant_of-self : goal.invariant_of-self
invariant_of-self c =
    let e = c.in_err-outgoing_frame.ensures in
    record {
      posted = (let P : List (ℕ × List ℕ) → Type 0 = λ outgoing_frames. IsPosted c.self.inside.log.items outgoing_frames in subst P e.items c.self.invariant.posted);
      short = c.self.invariant.short;
      room = omega (arith, c.self.invariant.room, e.len, e.capacity);
    }

pub invariant_of-self-2 : goal.invariant_of-self-2
invariant_of-self-2 c =
    let x = c.in_ok-outgoing_frame.outgoing_frame in
    let e = c.in_ok-outgoing_frame.ensures in
    record {
      posted = posted_out c.self.inside.log.items x.0 c.self.inside.outbox.items c.pop_front.new.self.items (Some x.1) (pops_out x c.self.inside.outbox.items c.pop_front.new.self.items e.items) c.self.invariant.posted;
      short = c.self.invariant.short;
      room = omega (arith, c.self.invariant.room, e.len, e.capacity);
    }

pub returns-clause-last : goal.returns-clause-last
returns-clause-last c =
    let x = c.in_ok-outgoing_frame.outgoing_frame in
    last_out c.self.inside.log.items x.0 c.self.inside.outbox.items c.pop_front.new.self.items x.1 (pops_out x c.self.inside.outbox.items c.pop_front.new.self.items c.in_ok-outgoing_frame.ensures.items) c.self.invariant.posted

pub returns-clause-short : goal.returns-clause-short
returns-clause-short c =
    let x = c.in_ok-outgoing_frame.outgoing_frame in
    short_out x.0 x.1 c.self.inside.log.items c.pop_front.new.self.items
    (last_out c.self.inside.log.items x.0 c.self.inside.outbox.items c.pop_front.new.self.items x.1 (pops_out x c.self.inside.outbox.items c.pop_front.new.self.items c.in_ok-outgoing_frame.ensures.items) c.self.invariant.posted) c.self.invariant.short
