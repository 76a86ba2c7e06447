use Rattle.std.proofs.Common.{◌≡◌, ◌<◌, ◌+◌, ◌∙◌, ℕ, List, true, length, take, sym, ap, subst, arith, slice_index_or, slice_set}
use Rattle.service_machine.specs.States.{Slot, slot_at, has_next, advanced, number_at_head, with_slot, empty_slot}
use Rattle.service_machine.specs.Steps.{after_moving}
use Rattle.pred_queue.specs.Capped.{capped}
use Rattle.stamp_match.specs.Kept.{IsMatcherOf, slot_in}
use Rattle.stamp_match.specs.Named.{sender_at}
use Rattle.svc_value.specs.declared.value.Value.{Value}
use Rattle.node_core.specs.declared.entry.Entry.{Entry}
use Rattle.node_core.specs.Inside.{service_of}
use Rattle.node_core.specs.View.{NodeView, AreInOrder, AreCounted}
use Rattle.node_core.proofs.InputLemmas.{inputs_within}
use Rattle.node_core.proofs.AdvanceLemmas.{at_place, set_place, in_order_set, counted_set, advanced_sender, advanced_count, number_small}
use Rattle.node_core.proofs.MatcherLemmas.{at_any, uncapped_next}
use Rattle.node_core.proofs.node.Node.advance.Goals as goal

pub advance_at-requires-clause-count : goal.advance_at-requires-clause-count
advance_at-requires-clause-count g c = omega (arith, c.len-count.ensures, inputs_within c.self.inside.edges c.self.inside.slots.items c.self.invariant.in_order)

pub advance_at-requires-clause-next : goal.advance_at-requires-clause-next
advance_at-requires-clause-next g c =
    let place : c.args.place < length c.self.inside.edges = (let P : NodeView → Type 0 = λ s. c.args.place < length s.state.edges in subst P (sym {A = NodeView} c.self.view_is) c.requires.place) in
    let lt : c.args.place < length c.self.inside.slots.items = omega (arith, place, inputs_within c.self.inside.edges c.self.inside.slots.items c.self.invariant.in_order) in
    let slot : Slot Value = slot_in c.self.inside.slots.items c.args.place in
    let next : has_next (slot_at c.self.inside.slots.items (sender_at c.self.inside.slots.items c.args.place)) ≡ true =
    (let P : NodeView → Type 0 = λ s. has_next (slot_at s.state.slots (sender_at s.state.slots c.args.place)) ≡ true in subst P (sym {A = NodeView} c.self.view_is) c.requires.next) in
    ap (λ (z : Slot Value). has_next z) (sym (at_place c.self.inside.slots.items c.args.place slot c.self.invariant.in_order.apart lt (at_any c.self.inside.slots.items c.args.place (empty_slot 0) slot lt))) ∙ next

pub invariant_of-self : goal.invariant_of-self
invariant_of-self g c =
    let place : c.args.place < length c.self.inside.edges = (let P : NodeView → Type 0 = λ s. c.args.place < length s.state.edges in subst P (sym {A = NodeView} c.self.view_is) c.requires.place) in
    let lt : c.args.place < length c.self.inside.slots.items = omega (arith, place, inputs_within c.self.inside.edges c.self.inside.slots.items c.self.invariant.in_order) in
    let slot : Slot Value = slot_in c.self.inside.slots.items c.args.place in
    let is : slot ≡ slice_index_or c.self.inside.slots.items c.args.place slot = at_any c.self.inside.slots.items c.args.place (empty_slot 0) slot lt in
    let next : has_next slot ≡ true = (ap (λ (z : Slot Value). has_next z) (sym (at_place c.self.inside.slots.items c.args.place slot c.self.invariant.in_order.apart lt is))
    ∙ (let P : NodeView → Type 0 = λ s. has_next (slot_at s.state.slots (sender_at s.state.slots c.args.place)) ≡ true in subst P (sym {A = NodeView} c.self.view_is) c.requires.next)) in
    let new_is : capped (advanced slot) ≡ advanced slot =
    uncapped_next slot next (number_small c.self.inside.journal.entries c.self.inside.slots.items c.args.place slot lt is next
    (let Q : List Entry → Type 0 = λ es. length es < 18446744073709551616 in subst Q c.entries-entries.ensures c.entries-entries.type_inv.0) c.self.invariant.counted) in
    let slots_are : c.advance_at.new.slots.items ≡ slice_set c.self.inside.slots.items c.args.place (advanced slot) = c.advance_at.ensures.slots ∙ ap (λ (z : Slot Value). slice_set c.self.inside.slots.items c.args.place z) new_is in
    let count : number_at_head (advanced slot).head + length (advanced slot).queue ≡ number_at_head slot.head + length slot.queue = advanced_count slot next in
    record {
      few = c.self.invariant.few;
      within = c.self.invariant.within;
      defined = c.self.invariant.defined;
      in_order = (let P : List (Slot Value) → Type 0 = λ xs. AreInOrder c.self.inside.edges xs in
          subst P (sym {A = List (Slot Value)} slots_are) (in_order_set c.self.inside.edges c.self.inside.slots.items c.args.place slot (advanced slot) is lt (advanced_sender slot) c.self.invariant.in_order));
      within_layout = c.self.invariant.within_layout;
      counted = (let P : List (Slot Value) → Type 0 = λ xs. AreCounted c.self.inside.journal.entries xs in
          subst P (sym {A = List (Slot Value)} slots_are) (counted_set c.self.inside.journal.entries c.self.inside.slots.items c.args.place slot (advanced slot) lt is (omega (arith, count)) c.self.invariant.counted));
      matched = (let P : ℕ → Type 0 = λ n. IsMatcherOf (take n c.advance_at.new.slots.items) c.self.inside.floor c.advance_at.new.matcher in subst P c.len-count.ensures c.advance_at.ensures.matcher);
    }

pub returns-clause-state : goal.returns-clause-state
returns-clause-state g c =
    let place : c.args.place < length c.self.inside.edges = (let P : NodeView → Type 0 = λ s. c.args.place < length s.state.edges in subst P (sym {A = NodeView} c.self.view_is) c.requires.place) in
    let lt : c.args.place < length c.self.inside.slots.items = omega (arith, place, inputs_within c.self.inside.edges c.self.inside.slots.items c.self.invariant.in_order) in
    let slot : Slot Value = slot_in c.self.inside.slots.items c.args.place in
    let is : slot ≡ slice_index_or c.self.inside.slots.items c.args.place slot = at_any c.self.inside.slots.items c.args.place (empty_slot 0) slot lt in
    let next : has_next slot ≡ true = (ap (λ (z : Slot Value). has_next z) (sym (at_place c.self.inside.slots.items c.args.place slot c.self.invariant.in_order.apart lt is))
    ∙ (let P : NodeView → Type 0 = λ s. has_next (slot_at s.state.slots (sender_at s.state.slots c.args.place)) ≡ true in subst P (sym {A = NodeView} c.self.view_is) c.requires.next)) in
    let new_is : capped (advanced slot) ≡ advanced slot =
    uncapped_next slot next (number_small c.self.inside.journal.entries c.self.inside.slots.items c.args.place slot lt is next
    (let Q : List Entry → Type 0 = λ es. length es < 18446744073709551616 in subst Q c.entries-entries.ensures c.entries-entries.type_inv.0) c.self.invariant.counted) in
    let slots_are : c.advance_at.new.slots.items ≡ with_slot (advanced (slot_at c.self.inside.slots.items (sender_at c.self.inside.slots.items c.args.place))) c.self.inside.slots.items =
    c.advance_at.ensures.slots ∙ ap (λ (z : Slot Value). slice_set c.self.inside.slots.items c.args.place z) new_is
    ∙ set_place c.self.inside.slots.items c.args.place slot (advanced slot) c.self.invariant.in_order.apart lt is (advanced_sender slot)
    ∙ ap (λ (z : Slot Value). with_slot (advanced z) c.self.inside.slots.items) (sym (at_place c.self.inside.slots.items c.args.place slot c.self.invariant.in_order.apart lt is)) in
    (λ i. record (service_of c.self.inside) { state = record (service_of c.self.inside).state { due = true; slots = slots_are i } })
    ∙ ap (λ (s : NodeView). record s { state = after_moving (sender_at s.state.slots c.args.place) s.state }) c.self.view_is
