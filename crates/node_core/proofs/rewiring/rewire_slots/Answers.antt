use Rattle.std.proofs.Common.{◌≡◌, ◌<◌, ◌∙◌, ◌++◌, List, ℕ, length, sym, ap, subst, arith, add-one, drop, slice_index_or, suc}
use Rattle.service_machine.specs.States.{Slot}
use Rattle.service_machine.specs.Steps.{cut_to, cut_others, targets}
use Rattle.propagation.specs.Lists.{AreDistinct}
use Rattle.svc_value.specs.declared.value.Value.{Value}
use Rattle.node_core.specs.View.{senders}
use Rattle.node_core.proofs.CutLemmas.{edge_step, apart_left, apart_next, edges_done}
use Rattle.node_core.proofs.rewiring.rewire_slots.Goals as goal

pub loop-i-preserved : goal.loop-i-preserved
loop-i-preserved c =
    let lt : c.loop-i.i < length c.args.edges.now = omega (arith, c.loop-i-test.true, c.len-i-end.ensures) in
    let is : c.index-as_slice-i.result ≡ slice_index_or c.args.edges.now c.loop-i.i c.index-as_slice-i.result = c.index-as_slice-i.is ∙ ap (λ (xs : List (ℕ × ℕ)). slice_index_or xs c.loop-i.i c.index-as_slice-i.result) c.as_slice.ensures in
    rw add-one (record {
      same = ap (λ (xs : List (Slot Value)). xs ++ (cut_to (drop (suc c.loop-i.i) c.args.edges.now) c.args.clock c.take_slot-slot.new.slots.items ++ cut_others (targets (drop (suc c.loop-i.i) c.args.edges.now)) c.args.clock c.take_slot-slot.new.slots.items)) c.push_reserved.ensures.items
          ∙ edge_step c.loop-i.new.items c.loop-i.old.items c.take_slot-slot.new.slots.items c.args.edges.now c.loop-i.i c.args.clock c.index-as_slice-i.result c.take_slot-slot.result lt is c.loop-i.invariant.senders c.loop-i.invariant.targets
          c.take_slot-slot.ensures.slot c.take_slot-slot.ensures.left
          ∙ c.loop-i.invariant.same;
      senders = (let P : List (Slot Value) → Type 0 = λ xs. AreDistinct (senders xs) in subst P (sym c.take_slot-slot.ensures.left) (apart_left c.loop-i.old.items c.index-as_slice-i.result.0 c.loop-i.invariant.senders));
      targets = apart_next c.args.edges.now c.loop-i.i lt c.loop-i.invariant.targets;
      len = omega (arith, c.push_reserved.ensures.len, c.loop-i.invariant.len);
      room = omega (arith, c.loop-i.invariant.room, c.take_slot-slot.ensures.len, c.push_reserved.ensures.capacity);
    })

pub returns : goal.returns
returns c = c.cut_all.ensures ∙ edges_done c.loop-i.new.items c.loop-i.old.items _ c.args.edges.now c.loop-i.i c.args.clock (omega (arith, c.loop-i-test.false, c.len-i-end.ensures)) c.loop-i.invariant.same
