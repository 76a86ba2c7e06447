use Rattle.std.proofs.Common.{◌≡◌, ◌<◌, ◌≤◌, ◌∙◌, ◌∷◌, ◌++◌, List, ℕ, Some, Option, length, length-append, take, drop, suc, sym, ap, subst, arith, refl, add-one}
use Rattle.std.specs.Prelude.{All}
use Rattle.propagation.specs.Logs.Entry.{Did as TheDid}
use Rattle.propagation.specs.Lists.{AreDistinct}
use Rattle.service_machine.specs.States.{Slot, edges_to}
use Rattle.service_machine.specs.Steps.{targets, cut_to, cut_others, after_changing, done_log}
use Rattle.stamp_match.specs.Kept.{IsMatcherOf}
use Rattle.svc_graph.specs.History.{dependencies}
use Rattle.svc_graph.specs.declared.definition.Definition.{Definition}
use Rattle.svc_value.specs.declared.value.Value.{Value}
use Rattle.node_core.specs.declared.entry.Entry.{Entry}
use Rattle.node_core.specs.declared.entry.Entry.TheVariants.{Did}
use Rattle.node_core.specs.Coming.{next, coming}
use Rattle.node_core.specs.Entries.{sent_entries}
use Rattle.node_core.specs.Inside.{service_of}
use Rattle.node_core.specs.Rewiring.{rewired_frames}
use Rattle.node_core.specs.View.{NodeView, IsFew, AreInOrder, AreCounted}
use Rattle.node_core.proofs.DefinitionLemmas.{coming_at, few_next, defined_next}
use Rattle.node_core.proofs.DoneLemmas.{edges_targets, edges_length, edges_epochs}
use Rattle.node_core.proofs.EventLemmas.{counted_more, grows_event, logs}
use Rattle.node_core.proofs.OrderLemmas.{in_order_cut}
use Rattle.node_core.proofs.CountLemmas.{counted_cut}
use Rattle.node_core.proofs.ChangeLemmas.{done_state, done_step}
use Rattle.node_core.proofs.ShortLemmas.{says_short}
use Rattle.node_core.proofs.node.Node.do_next.Goals as goal

pub record-requires-clause-short : goal.record-requires-clause-short
record-requires-clause-short c = says_short c.in_ok-definition.field-0.outgoing _ c.in_ok-definition.ensures.outgoing

pub rewire_slots-requires-clause-targets : goal.rewire_slots-requires-clause-targets
rewire_slots-requires-clause-targets c =
    let lt : c.self.inside.done < length c.self.inside.changes.items = omega (arith, c.if-self-len.false, c.len.ensures, c.self.invariant.within) in
    let few : IsFew (next c.self.inside.definition c.index-change.result.now) = few_next c.self.inside.id c.self.inside.own c.self.inside.definition c.self.inside.changes.items c.self.inside.done c.index-change.result.now c.self.invariant.defined lt c.index-change.ensures in
    subst AreDistinct (sym (ap (λ (es : List (ℕ × ℕ)). targets es) c.in_ok-definition.ensures.edges ∙ edges_targets c.self.inside.edges c.next_clock-clock.result (dependencies (next c.self.inside.definition c.index-change.result.now)))) few.apart

pub inputs_of-inputs-requires : goal.inputs_of-inputs-requires
inputs_of-inputs-requires c =
    let lt : c.self.inside.done < length c.self.inside.changes.items = omega (arith, c.if-self-len.false, c.len.ensures, c.self.invariant.within) in
    let few : IsFew (next c.self.inside.definition c.index-change.result.now) = few_next c.self.inside.id c.self.inside.own c.self.inside.definition c.self.inside.changes.items c.self.inside.done c.index-change.result.now c.self.invariant.defined lt c.index-change.ensures in
    let up : c.next_clock-clock.result ≡ suc c.self.inside.own = omega (arith, c.next_clock-clock.ensures) in
    let made : c.in_ok-definition.field-0.edges ≡ edges_to c.self.inside.edges c.next_clock-clock.result (dependencies (next c.self.inside.definition c.index-change.result.now)) = c.in_ok-definition.ensures.edges in
    let names : targets c.in_ok-definition.field-0.edges ≡ dependencies (next c.self.inside.definition c.index-change.result.now) =
    ap (λ (es : List (ℕ × ℕ)). targets es) made ∙ edges_targets c.self.inside.edges c.next_clock-clock.result (dependencies (next c.self.inside.definition c.index-change.result.now)) in
    let wired : c.replace.new.dest ≡ c.in_ok-definition.field-0.edges = c.replace.ensures.after in
    let placed : c.rewire_slots.result.items ≡ cut_to c.in_ok-definition.field-0.edges c.next_clock-clock.result c.self.inside.slots.items ++ cut_others (targets c.in_ok-definition.field-0.edges) c.next_clock-clock.result c.self.inside.slots.items =
    c.rewire_slots.ensures ∙ ap (λ (xs : List (Slot Value)). cut_to c.in_ok-definition.field-0.edges c.next_clock-clock.result xs ++ cut_others (targets c.in_ok-definition.field-0.edges) c.next_clock-clock.result xs) (ap (λ v. v.items) c.replace-old.ensures.value) in
    let order : AreInOrder c.replace.new.dest c.rewire_slots.result.items = (let P : List (ℕ × ℕ) → Type 0 = λ es. AreInOrder es c.rewire_slots.result.items in
    let Q : List (Slot Value) → Type 0 = λ xs. AreInOrder c.in_ok-definition.field-0.edges xs in
    subst P (sym wired) (subst Q (sym placed) (in_order_cut c.in_ok-definition.field-0.edges c.next_clock-clock.result c.self.inside.slots.items (subst AreDistinct (sym names) few.apart) c.self.invariant.in_order.apart))) in
    let S : List (Slot Value) → Type 0 = λ xs. AreInOrder c.replace.new.dest xs in
    subst S (sym c.as_slice.ensures.value) order

pub of-self-inside-requires : goal.of-self-inside-requires
of-self-inside-requires c =
    let lt : c.self.inside.done < length c.self.inside.changes.items = omega (arith, c.if-self-len.false, c.len.ensures, c.self.invariant.within) in
    let few : IsFew (next c.self.inside.definition c.index-change.result.now) = few_next c.self.inside.id c.self.inside.own c.self.inside.definition c.self.inside.changes.items c.self.inside.done c.index-change.result.now c.self.invariant.defined lt c.index-change.ensures in
    let up : c.next_clock-clock.result ≡ suc c.self.inside.own = omega (arith, c.next_clock-clock.ensures) in
    let made : c.in_ok-definition.field-0.edges ≡ edges_to c.self.inside.edges c.next_clock-clock.result (dependencies (next c.self.inside.definition c.index-change.result.now)) = c.in_ok-definition.ensures.edges in
    let names : targets c.in_ok-definition.field-0.edges ≡ dependencies (next c.self.inside.definition c.index-change.result.now) =
    ap (λ (es : List (ℕ × ℕ)). targets es) made ∙ edges_targets c.self.inside.edges c.next_clock-clock.result (dependencies (next c.self.inside.definition c.index-change.result.now)) in
    let wired : c.replace.new.dest ≡ c.in_ok-definition.field-0.edges = c.replace.ensures.after in
    let placed : c.rewire_slots.result.items ≡ cut_to c.in_ok-definition.field-0.edges c.next_clock-clock.result c.self.inside.slots.items ++ cut_others (targets c.in_ok-definition.field-0.edges) c.next_clock-clock.result c.self.inside.slots.items =
    c.rewire_slots.ensures ∙ ap (λ (xs : List (Slot Value)). cut_to c.in_ok-definition.field-0.edges c.next_clock-clock.result xs ++ cut_others (targets c.in_ok-definition.field-0.edges) c.next_clock-clock.result xs) (ap (λ v. v.items) c.replace-old.ensures.value) in
    let len : length c.replace.new.dest ≡ length (dependencies (next c.self.inside.definition c.index-change.result.now)) =
    ap (λ (es : List (ℕ × ℕ)). length es) (wired ∙ made) ∙ edges_length c.self.inside.edges c.next_clock-clock.result (dependencies (next c.self.inside.definition c.index-change.result.now)) in
    omega (arith, c.inputs_of-inputs.ensures.len, len, few.few)

pub invariant_of-self-2 : goal.invariant_of-self-2
invariant_of-self-2 c =
    let lt : c.self.inside.done < length c.self.inside.changes.items = omega (arith, c.if-self-len.false, c.len.ensures, c.self.invariant.within) in
    let few : IsFew (next c.self.inside.definition c.index-change.result.now) = few_next c.self.inside.id c.self.inside.own c.self.inside.definition c.self.inside.changes.items c.self.inside.done c.index-change.result.now c.self.invariant.defined lt c.index-change.ensures in
    let up : c.next_clock-clock.result ≡ suc c.self.inside.own = omega (arith, c.next_clock-clock.ensures) in
    let made : c.in_ok-definition.field-0.edges ≡ edges_to c.self.inside.edges c.next_clock-clock.result (dependencies (next c.self.inside.definition c.index-change.result.now)) = c.in_ok-definition.ensures.edges in
    let names : targets c.in_ok-definition.field-0.edges ≡ dependencies (next c.self.inside.definition c.index-change.result.now) =
    ap (λ (es : List (ℕ × ℕ)). targets es) made ∙ edges_targets c.self.inside.edges c.next_clock-clock.result (dependencies (next c.self.inside.definition c.index-change.result.now)) in
    let wired : c.replace.new.dest ≡ c.in_ok-definition.field-0.edges = c.replace.ensures.after in
    let placed : c.rewire_slots.result.items ≡ cut_to c.in_ok-definition.field-0.edges c.next_clock-clock.result c.self.inside.slots.items ++ cut_others (targets c.in_ok-definition.field-0.edges) c.next_clock-clock.result c.self.inside.slots.items =
    c.rewire_slots.ensures ∙ ap (λ (xs : List (Slot Value)). cut_to c.in_ok-definition.field-0.edges c.next_clock-clock.result xs ++ cut_others (targets c.in_ok-definition.field-0.edges) c.next_clock-clock.result xs) (ap (λ v. v.items) c.replace-old.ensures.value) in
    let grown : length c.record.new.self.entries ≡ length (c.reserve.new.self.entries ++ Did c.clock.inside.0 ∷ sent_entries c.in_ok-definition.field-0.outgoing) = ap (λ (es : List Entry). length es) c.record.ensures.entries in
    let same : length c.reserve.new.self.entries ≡ length c.self.inside.journal.entries = ap (λ (es : List Entry). length es) c.in_ok-reserve.ensures.same.entries in
    record {
      few = c.self.invariant.few;
      within = omega (arith, lt);
      defined = defined_next c.self.inside.id c.self.inside.own _ c.self.inside.definition _ c.self.inside.changes.items c.self.inside.done _ c.index-change.result.now c.self.invariant.defined lt c.index-change.ensures up
          (c.replace-2.ensures.after ∙ ap (λ (d : Definition). Some d) c.in_ok-definition.ensures.definition) (omega arith);
      in_order = (let P : List (ℕ × ℕ) → Type 0 = λ es. AreInOrder es c.rewire_slots.result.items in
          let Q : List (Slot Value) → Type 0 = λ xs. AreInOrder c.in_ok-definition.field-0.edges xs in
          subst P (sym wired) (subst Q (sym placed) (in_order_cut c.in_ok-definition.field-0.edges c.next_clock-clock.result c.self.inside.slots.items (subst AreDistinct (sym names) few.apart) c.self.invariant.in_order.apart)));
      within_layout = record {
        few = (let len : length c.replace.new.dest ≡ length (dependencies (next c.self.inside.definition c.index-change.result.now)) =
            ap (λ (es : List (ℕ × ℕ)). length es) (wired ∙ made) ∙ edges_length c.self.inside.edges c.next_clock-clock.result (dependencies (next c.self.inside.definition c.index-change.result.now)) in
            omega (arith, len, few.few));
        edge_epochs = (let P : List (ℕ × ℕ) → Type 0 = λ es. All (λ edge. 1 ≤ edge.1) es in
            subst P (sym (wired ∙ made)) (edges_epochs c.self.inside.edges c.next_clock-clock.result (dependencies (next c.self.inside.definition c.index-change.result.now)) (omega (arith, up)) c.self.invariant.within_layout.edge_epochs));
        reader_epochs = c.self.invariant.within_layout.reader_epochs;
        told = c.self.invariant.within_layout.told;
      };
      counted = (let Q : List (Slot Value) → Type 0 = λ xs. AreCounted c.record.new.self.entries xs in
          subst Q (sym placed) (counted_more c.self.inside.journal.entries c.record.new.self.entries _
          (omega (arith, grown, same, length-append c.reserve.new.self.entries (Did c.clock.inside.0 ∷ sent_entries c.in_ok-definition.field-0.outgoing)))
          (counted_cut c.self.inside.journal.entries c.in_ok-definition.field-0.edges (targets c.in_ok-definition.field-0.edges) c.next_clock-clock.result c.self.inside.slots.items c.self.invariant.counted)));
      matched = (let P : List (Slot Value) → Type 0 = λ xs. IsMatcherOf xs c.self.inside.floor c.of-self-inside.result in
          subst P (c.inputs_of-inputs.ensures.first ∙ ap (λ (xs : List (Slot Value)). take (length c.replace.new.dest) xs) c.as_slice.ensures.value) c.of-self-inside.ensures);
    }

pub returns-clause-state : goal.returns-clause-state
returns-clause-state c =
    let lt : c.self.inside.done < length c.self.inside.changes.items = omega (arith, c.if-self-len.false, c.len.ensures, c.self.invariant.within) in
    let wired : c.replace.new.dest ≡ c.in_ok-definition.field-0.edges = c.replace.ensures.after in
    let brought : c.replace-2.new.dest ≡ Some (next c.self.inside.definition c.index-change.result.now) =
    c.replace-2.ensures.after ∙ ap (λ (d : Definition). Some d) c.in_ok-definition.ensures.definition in
    done_state (service_of c.self.inside).state (next c.self.inside.definition c.index-change.result.now) c.next_clock-clock.result c.replace-2.new.dest
    (coming (Some (next c.self.inside.definition c.index-change.result.now)) (drop (suc c.self.inside.done) c.self.inside.changes.items)) _ c.replace.new.dest c.rewire_slots.result.items
    (coming_at c.self.inside.definition c.self.inside.changes.items c.self.inside.done c.index-change.result.now lt c.index-change.ensures) (omega (arith, c.next_clock-clock.ensures)) brought
    (rw add-one (ap (λ (o : Option Definition). coming o (drop (suc c.self.inside.done) c.self.inside.changes.items)) brought))
    (wired ∙ c.in_ok-definition.ensures.edges)
    (c.rewire_slots.ensures ∙ (λ i. cut_to (sym wired i) c.next_clock-clock.result (ap (λ v. v.items) c.replace-old.ensures.value i) ++ cut_others (targets (sym wired i)) c.next_clock-clock.result (ap (λ v. v.items) c.replace-old.ensures.value i)))
    ∙ ap (λ (s : NodeView). after_changing dependencies s.state) c.self.view_is

pub returns-clause-log : goal.returns-clause-log
returns-clause-log c =
    let lt : c.self.inside.done < length c.self.inside.changes.items = omega (arith, c.if-self-len.false, c.len.ensures, c.self.invariant.within) in
    grows_event c.args.self.now _ (Did c.clock.inside.0) (TheDid c.clock.inside.0) c.in_ok-definition.field-0.outgoing
    (rewired_frames c.self.inside.edges c.next_clock-clock.result (dependencies (next c.self.inside.definition c.index-change.result.now))) (done_log dependencies c.args.self.now.state)
    (c.record.ensures.entries ∙ ap (λ (es : List Entry). es ++ Did c.clock.inside.0 ∷ sent_entries c.in_ok-definition.field-0.outgoing) (c.in_ok-reserve.ensures.same.entries ∙ ap (λ (s : NodeView). s.entries) c.self.view_is))
    (c.record.ensures.outbox ∙ ap (λ (ps : List (ℕ × List ℕ)). ps ++ c.in_ok-definition.field-0.outgoing) (c.in_ok-reserve.ensures.same.outbox ∙ ap (λ (s : NodeView). s.outbox) c.self.view_is))
    (c.record.ensures.handed ∙ c.in_ok-reserve.ensures.same.handed ∙ ap (λ (s : NodeView). s.handed) c.self.view_is)
    (ap (λ (s : NodeView). s.roster) c.self.view_is) (ap (λ (s : NodeView). s.changes) c.self.view_is) refl refl
    c.in_ok-definition.ensures.outgoing
    (λ log. ap (λ k. rewired_frames c.self.inside.edges c.next_clock-clock.result (dependencies (next c.self.inside.definition c.index-change.result.now)) (TheDid k ∷ log)) c.clock.view_is
    ∙ done_step (service_of c.self.inside).state (next c.self.inside.definition c.index-change.result.now) c.next_clock-clock.result
    (coming (Some (next c.self.inside.definition c.index-change.result.now)) (drop (suc c.self.inside.done) c.self.inside.changes.items)) log
    (coming_at c.self.inside.definition c.self.inside.changes.items c.self.inside.done c.index-change.result.now lt c.index-change.ensures) (omega (arith, c.next_clock-clock.ensures))
    ∙ ap (λ (s : NodeView). done_log dependencies s.state log) c.self.view_is)

pub returns-clause-did : goal.returns-clause-did
returns-clause-did c = λ _.
    logs c.args.self.now _ (Did c.next_clock-clock.result) c.reserve.new.self.entries c.reserve.new.self.outbox c.in_ok-definition.field-0.outgoing
    (c.record.ensures.entries ∙ ap (λ k. c.reserve.new.self.entries ++ Did k ∷ sent_entries c.in_ok-definition.field-0.outgoing) c.clock.view_is) (c.in_ok-reserve.ensures.same.entries ∙ ap (λ (s : NodeView). s.entries) c.self.view_is)
    c.record.ensures.outbox (c.in_ok-reserve.ensures.same.outbox ∙ ap (λ (s : NodeView). s.outbox) c.self.view_is)
