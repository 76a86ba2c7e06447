use Rattle.std.proofs.Common.{◌∙◌, ◌≡◌, ◌++◌, ◌∷◌, [], arith, sym, ap, subst, List, ℕ, length, ◌≤◌, ◌+◌, ◌-◌, deque_len, deque_capacity}
use Rattle.node_core.specs.View.{JournalView}
use Rattle.node_core.specs.declared.entry.Entry.{Entry}
use Rattle.node_core.specs.Outbox.{waiting, AreShort}
use Rattle.node_core.specs.OutgoingFrames.{waiting_frames, log_entries}
use Rattle.node_core.proofs.OutboxLemmas.{posted_same}
use Rattle.node_core.proofs.OutgoingFrameLemmas.{length_waiting_frames}
use Rattle.node_core.proofs.PostedLemmas.{posted_more}
use Rattle.node_core.proofs.ShortLemmas.{short_more, short_same}
use Rattle.node_core.proofs.journal.Journal.record.Goals as goal

pub invariant_of-self : goal.invariant_of-self
invariant_of-self c =
    let grown = c.put_all.ensures.entries ∙ ap (λ (xs : List Entry). xs ++ log_entries c.outgoing.inside.outgoing_frames.items) c.push_reserved.ensures.items ∙ ap (λ (xs : List Entry). (c.self.inside.log.items ++ c.args.first ∷ []) ++ xs) c.outgoing.invariant in
    let few : (q : ℕ) → AreShort (waiting q (waiting_frames c.outgoing.inside.outgoing_frames.items)) =
    (let P : List (ℕ × List ℕ) → Type 0 = λ m. (q : ℕ) → AreShort (waiting q m) in subst P (sym {A = List (ℕ × List ℕ)} c.outgoing.view_is) c.requires.short) in
    record {
      posted = posted_same _ _ _ _ grown
          c.put_all.ensures.items (posted_more c.self.inside.log.items c.self.inside.outbox.items (waiting_frames c.outgoing.inside.outgoing_frames.items) c.args.first c.requires.first c.self.invariant.posted);
      short = short_same _ _ grown (short_more c.self.inside.log.items (waiting_frames c.outgoing.inside.outgoing_frames.items) c.args.first c.requires.first few c.self.invariant.short);
      room = (let outgoing_frames : length c.args.outgoing ≤ deque_capacity c.self.inside.outbox - (deque_len c.self.inside.outbox + c.self.inside.handed) = (let P : JournalView → Type 0 = λ k. length c.args.outgoing ≤ k.outgoing_frame_room in subst P (sym {A = JournalView} c.self.view_is) c.requires.outgoing_frames) in
          let same : length (waiting_frames c.outgoing.inside.outgoing_frames.items) ≡ length c.args.outgoing = ap (λ (m : List (ℕ × List ℕ)). length m) c.outgoing.view_is in
          omega (arith, outgoing_frames, same, length_waiting_frames c.outgoing.inside.outgoing_frames.items, c.self.invariant.room, c.put_all.ensures.len, c.put_all.ensures.capacity));
    }
