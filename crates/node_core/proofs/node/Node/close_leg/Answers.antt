use Rattle.std.proofs.Common.{sym, subst, arith, length, List}
use Rattle.service_machine.specs.States.{Slot}
use Rattle.service_machine.specs.Openings.{AtRest, first_slots}
use Rattle.svc_value.specs.declared.value.Value.{Value}
use Rattle.node_core.specs.declared.entry.Entry.{Entry}
use Rattle.node_core.specs.View.{NodeView, AreInOrder, AreCounted}
use Rattle.node_core.specs.Inside.{service_of}
use Rattle.node_core.proofs.DefinitionLemmas.{all_done, defined_close}
use Rattle.node_core.proofs.MatcherLemmas.{matched_begun}
use Rattle.node_core.proofs.SlotLemmas.{in_order_open, counted_close}
use Rattle.node_core.proofs.node.Node.close_leg.Goals as goal

pub invariant_of-self : goal.invariant_of-self
invariant_of-self c =
    let rest : AtRest (service_of c.self.inside).state = (let P : NodeView → Type 0 = λ s. AtRest s.state in subst P (sym {A = NodeView} c.self.view_is) c.requires.rest) in
    let gone = all_done c.self.inside.definition c.clear-2.new.self.items 0 (omega (arith, c.clear-2.ensures.len)) in
    record {
      few = c.self.invariant.few;
      within = omega arith;
      defined = defined_close c.self.inside.id c.self.inside.own c.self.inside.definition _ _ rest.all_done gone c.self.invariant.defined;
      in_order = (let P : List (Slot Value) → Type 0 = λ slots. AreInOrder c.self.inside.edges slots in subst P (sym c.begin_all.ensures) (in_order_open c.self.inside.edges c.self.inside.slots.items c.self.invariant.in_order));
      within_layout = c.self.invariant.within_layout;
      counted = (let P : List (Slot Value) → Type 0 = λ slots. AreCounted c.clear.new.self.entries slots in
          let Q : List Entry → Type 0 = λ entries. AreCounted entries (first_slots c.self.inside.slots.items) in
          subst P (sym c.begin_all.ensures) (subst Q (sym c.clear.ensures.entries) (counted_close c.self.inside.slots.items c.self.invariant.in_order.apart rest.none_waits)));
      matched = matched_begun (length c.self.inside.edges) c.self.inside.slots.items _ c.self.inside.floor c.self.inside.matcher c.begin_all.ensures c.self.invariant.matched;
    }
