use Rattle.std.proofs.Common.{◌<◌, sym, subst, arith, ℕ, List}
use Rattle.node_core.specs.View.{JournalView, IsPosted, IsLastOut}
use Rattle.node_core.specs.Journals.{kept_of}
use Rattle.node_core.proofs.OutboxLemmas.{posted_back}
use Rattle.node_core.proofs.journal.Journal.give_back.Goals as goal

pub invariant_of-self : goal.invariant_of-self
invariant_of-self c =
    let some : 0 < c.self.inside.handed = (let P : JournalView → Type 0 = λ s. 0 < s.handed in subst P (sym {A = JournalView} c.self.view_is) c.requires.out) in
    let last : IsLastOut c.args.to c.args.bytes (kept_of c.self.inside).entries (kept_of c.self.inside).outbox =
    (let P : JournalView → Type 0 = λ s. IsLastOut c.args.to c.args.bytes s.entries s.outbox in subst P (sym {A = JournalView} c.self.view_is) c.requires.last) in
    record {
      posted = (let P : List (ℕ × List ℕ) → Type 0 = λ outgoing_frames. IsPosted c.self.inside.log.items outgoing_frames in
          subst P (sym c.push_front_reserved.ensures.items) (posted_back c.self.inside.log.items c.args.to c.args.bytes c.self.inside.outbox.items last c.self.invariant.posted));
      short = c.self.invariant.short;
      room = omega (arith, c.self.invariant.room, c.push_front_reserved.ensures.len, c.push_front_reserved.ensures.capacity, some);
    }
