use Rattle.std.proofs.Common.{◌<◌, ◌≤◌, ◌+◌, sym, subst, arith, List, length}
use Rattle.propagation.specs.Lists.{Has}
use Rattle.service_machine.specs.States.{Slot}
use Rattle.svc_graph.specs.Book.{IsDefinitionOf}
use Rattle.svc_graph.specs.declared.definition.Definition.{Definition}
use Rattle.svc_value.specs.declared.value.Value.{Value}
use Rattle.node_core.specs.Coming.{coming}
use Rattle.node_core.specs.View.{NodeView, AreInOrder, AreCounted}
use Rattle.node_core.proofs.DefinitionLemmas.{defined_open}
use Rattle.node_core.proofs.MatcherLemmas.{matched_begun}
use Rattle.node_core.proofs.SlotLemmas.{in_order_open, counted_open}
use Rattle.node_core.proofs.node.Node.begin_leg_with_same_roster.Goals as goal

pub invariant_of-self : goal.invariant_of-self
invariant_of-self c =
    let known = (let P : NodeView → Type 0 = λ s. s.state.id < length s.roster in subst P (sym {A = NodeView} c.self.view_is) c.requires.known) in
    let clock = (let P : NodeView → Type 0 = λ s. s.state.own + length c.args.changes.items ≤ 1024000 in subst P (sym {A = NodeView} c.self.view_is) c.requires.clock) in
    let accepted = (let P : NodeView → Type 0 = λ s. (d : Definition) → Has (coming s.state.definition c.args.changes.items) d → IsDefinitionOf s.roster s.state.id d in
    subst P (sym {A = NodeView} c.self.view_is) c.requires.accepted) in
    record {
      few = c.self.invariant.few;
      within = omega arith;
      defined = defined_open c.self.inside.id c.self.inside.own c.self.inside.definition _ c.self.inside.roster c.args.changes.items c.self.invariant.defined known c.self.invariant.few accepted clock;
      in_order = (let P : List (Slot Value) → Type 0 = λ slots. AreInOrder c.self.inside.edges slots in subst P (sym c.begin_all.ensures) (in_order_open c.self.inside.edges c.self.inside.slots.items c.self.invariant.in_order));
      within_layout = c.self.invariant.within_layout;
      counted = (let P : List (Slot Value) → Type 0 = λ slots. AreCounted c.self.inside.journal.entries slots in subst P (sym c.begin_all.ensures) (counted_open c.self.inside.journal.entries c.self.inside.slots.items c.self.invariant.counted));
      matched = matched_begun (length c.self.inside.edges) c.self.inside.slots.items _ c.self.inside.floor c.self.inside.matcher c.begin_all.ensures c.self.invariant.matched;
    }
