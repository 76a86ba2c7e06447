use Rattle.std.proofs.Common.{◌≡◌, ◌<◌, ◌∙◌, ◌++◌, ◌∷◌, [], List, ℕ, Some, length, take, sym, ap, subst, refl, arith, length-append}
use Rattle.propagation.specs.Logs.{Emission, stamps_of}
use Rattle.propagation.specs.Logs.Entry.{Computed as TheComputed}
use Rattle.service_machine.specs.States.{Slot, raise, raise_all}
use Rattle.service_machine.specs.Steps.{after_computing, computed_log, reports, picks}
use Rattle.service_machine.specs.Turning.{heads, slots_of}
use Rattle.node_core.specs.Outgoing.{Says}
use Rattle.stamp_match.specs.Kept.{IsMatcherOf}
use Rattle.svc_graph.specs.History.{meaning_of}
use Rattle.svc_value.specs.declared.value.Value.{Value}
use Rattle.node_core.specs.declared.entry.Entry.{Entry}
use Rattle.node_core.specs.declared.entry.Entry.TheVariants.{Computed}
use Rattle.node_core.specs.Computing.{emission_over}
use Rattle.node_core.specs.Entries.{sent_entries}
use Rattle.node_core.specs.Inside.{service_of}
use Rattle.node_core.specs.View.{NodeView, told_all}
use Rattle.node_core.proofs.EventLemmas.{counted_more, computed_state, computed_step, grows_event, logs}
use Rattle.node_core.proofs.ShortLemmas.{says_short}
use Rattle.node_core.proofs.node.Node.compute.Goals as goal

pub record-outgoing-requires-clause-short : goal.record-outgoing-requires-clause-short
record-outgoing-requires-clause-short g c = says_short c.in_ok-outgoing.outgoing _ c.in_ok-outgoing.ensures

pub invariant_of-self-2 : goal.invariant_of-self-2
invariant_of-self-2 g c =
    let grown : length c.record-outgoing.new.self.entries ≡ length (c.reserve.new.self.entries ++ Computed c.in_ok-computation.computation ∷ sent_entries c.in_ok-outgoing.outgoing) = ap (λ (es : List Entry). length es) c.record-outgoing.ensures.entries in
    let same : length c.reserve.new.self.entries ≡ length c.self.inside.journal.entries = ap (λ (es : List Entry). length es) c.in_ok-reserve.ensures.same.entries in
    record {
      few = c.self.invariant.few;
      within = c.self.invariant.within;
      defined = record {
        present = c.self.invariant.defined.present;
        next = c.self.invariant.defined.next;
        number = c.self.invariant.defined.number;
        clock = c.self.invariant.defined.clock;
        clocked = c.self.invariant.defined.clocked;
      };
      in_order = c.self.invariant.in_order;
      within_layout = record {
        few = c.self.invariant.within_layout.few;
        edge_epochs = c.self.invariant.within_layout.edge_epochs;
        reader_epochs = c.self.invariant.within_layout.reader_epochs;
        told = λ m e.
            let same : Some c.in_ok-emission.emission ≡ Some m = sym c.replace-last.ensures.after ∙ e in
            let one : c.in_ok-emission.emission ≡ m = cc same in
            let Q : Emission Value → Type 0 = λ x. 0 < length x.stamps in subst Q one c.in_ok-emission.ensures.some;
      };
      counted = counted_more c.self.inside.journal.entries c.record-outgoing.new.self.entries c.self.inside.slots.items
          (omega (arith, grown, same, length-append c.reserve.new.self.entries (Computed c.in_ok-computation.computation ∷ sent_entries c.in_ok-outgoing.outgoing))) c.self.invariant.counted;
      matched = (let P : List (Slot Value) → Type 0 = λ xs. IsMatcherOf xs c.raise_over.new.floor c.raise_over.new.matcher in
          subst P (c.inputs_of-inputs-2.ensures.first ∙ ap (λ (xs : List (Slot Value)). take (length c.self.inside.edges) xs) c.as_slice-2.ensures.value) c.raise_over.ensures.matcher);
    }

pub raise_over-requires-clause-matcher : goal.raise_over-requires-clause-matcher
raise_over-requires-clause-matcher g c =
    let P : List (Slot Value) → Type 0 = λ xs. IsMatcherOf xs c.self.inside.floor c.self.inside.matcher in
    subst P (sym (c.inputs_of-inputs-2.ensures.first ∙ ap (λ (xs : List (Slot Value)). take (length c.self.inside.edges) xs) c.as_slice-2.ensures.value)) c.self.invariant.matched

pub returns-clause-state : goal.returns-clause-state
returns-clause-state g c =
    let same =
    (c.inputs_of-inputs-2.ensures.slots ∙ ap (λ (xs : List (Slot Value)). slots_of c.self.inside.edges xs) c.as_slice-2.ensures.value)
    ∙ sym (c.inputs_of-inputs.ensures.slots ∙ ap (λ (xs : List (Slot Value)). slots_of c.self.inside.edges xs) c.as_slice.ensures.value) in
    let raised : c.raise_over.new.floor ≡ raise c.self.inside.floor c.in_ok-emission.emission.stamps =
    c.raise_over.ensures.raised
    ∙ ap (λ (xs : List (Slot Value)). raise c.self.inside.floor (raise_all ((c.self.inside.id, c.self.inside.own) ∷ []) (heads xs))) same
    ∙ ap (λ (m : Emission Value). raise c.self.inside.floor m.stamps) (sym c.in_ok-emission.ensures.emission) in
    computed_state (service_of c.self.inside).state c.in-Some.definition c.in_ok-emission.emission c.replace-last.new.dest c.raise_over.new.floor c.self.inside.readers.present c.in-Some.is
    (c.in_ok-emission.ensures.emission ∙ ap (λ (slots : List (Slot Value)). emission_over c.self.inside.id c.self.inside.own c.in-Some.definition slots) (c.inputs_of-inputs.ensures.slots ∙ ap (λ (xs : List (Slot Value)). slots_of c.self.inside.edges xs) c.as_slice.ensures.value))
    c.replace-last.ensures.after raised refl
    ∙ ap (λ (s : NodeView). after_computing meaning_of s.state s.state.definition) c.self.view_is

pub returns-clause-log : goal.returns-clause-log
returns-clause-log g c =
    grows_event c.args.self.now _ (Computed c.in_ok-computation.computation)
    (TheComputed c.in_ok-computation.computation.value c.in_ok-computation.computation.stamps c.in_ok-computation.computation.picks) c.in_ok-outgoing.outgoing
    (reports (told_all (stamps_of c.self.inside.last) c.self.inside.readers.present) c.in_ok-emission.emission) (computed_log meaning_of c.args.self.now.state c.args.self.now.state.definition)
    (c.record-outgoing.ensures.entries ∙ ap (λ (es : List Entry). es ++ Computed c.in_ok-computation.computation ∷ sent_entries c.in_ok-outgoing.outgoing) (c.in_ok-reserve.ensures.same.entries ∙ ap (λ (s : NodeView). s.entries) c.self.view_is))
    (c.record-outgoing.ensures.outbox ∙ ap (λ (ps : List (ℕ × List ℕ)). ps ++ c.in_ok-outgoing.outgoing) (c.in_ok-reserve.ensures.same.outbox ∙ ap (λ (s : NodeView). s.outbox) c.self.view_is))
    (c.record-outgoing.ensures.handed ∙ c.in_ok-reserve.ensures.same.handed ∙ ap (λ (s : NodeView). s.handed) c.self.view_is)
    (ap (λ (s : NodeView). s.roster) c.self.view_is) (ap (λ (s : NodeView). s.changes) c.self.view_is) refl refl
    (let Q : List (ℕ × ℕ) → Type 0 = λ ps. Says c.in_ok-outgoing.outgoing (reports (told_all (stamps_of c.self.inside.last) ps) c.in_ok-emission.emission) in subst Q c.as_slice-readers.ensures c.in_ok-outgoing.ensures)
    (λ log. computed_step (service_of c.self.inside).state c.in-Some.definition c.in_ok-emission.emission c.in_ok-computation.computation.value c.in_ok-computation.computation.stamps c.in_ok-computation.computation.picks
    (told_all (stamps_of c.self.inside.last) c.self.inside.readers.present) log c.in-Some.is (c.in_ok-emission.ensures.emission ∙ ap (λ (slots : List (Slot Value)). emission_over c.self.inside.id c.self.inside.own c.in-Some.definition slots) (c.inputs_of-inputs.ensures.slots ∙ ap (λ (xs : List (Slot Value)). slots_of c.self.inside.edges xs) c.as_slice.ensures.value)) c.in_ok-computation.ensures.value c.in_ok-computation.ensures.stamps (c.in_ok-computation.ensures.picks ∙ ap (λ (slots : List (Slot Value)). picks slots) (c.inputs_of-inputs.ensures.slots ∙ ap (λ (xs : List (Slot Value)). slots_of c.self.inside.edges xs) c.as_slice.ensures.value)) refl
    ∙ ap (λ (s : NodeView). computed_log meaning_of s.state s.state.definition log) c.self.view_is)

pub returns-clause-computed : goal.returns-clause-computed
returns-clause-computed g c = λ d is. (
  c.in_ok-computation.computation,
  logs c.args.self.now _ (Computed c.in_ok-computation.computation) c.reserve.new.self.entries c.reserve.new.self.outbox c.in_ok-outgoing.outgoing
      c.record-outgoing.ensures.entries (c.in_ok-reserve.ensures.same.entries ∙ ap (λ (s : NodeView). s.entries) c.self.view_is)
      c.record-outgoing.ensures.outbox (c.in_ok-reserve.ensures.same.outbox ∙ ap (λ (s : NodeView). s.outbox) c.self.view_is),
)
