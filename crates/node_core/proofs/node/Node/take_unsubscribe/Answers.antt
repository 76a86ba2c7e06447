use Rattle.std.proofs.Common.{◌≡◌, ◌≤◌, ◌∙◌, ◌==◌, not, ℕ, Option, None, Some, refl, sym, ap, subst}
use Rattle.std.specs.Prelude.{All, if◌then◌else◌}
use Rattle.std.proofs.lemmas.List.Elements.{All-filter}
use Rattle.propagation.specs.Logs.{is_epoch, stamps_of}
use Rattle.propagation.specs.Logs.Frame.{Unsubscribe as TheUnsubscribe}
use Rattle.rewire_core.specs.Reading.{Reading}
use Rattle.service_machine.specs.Refusing.{Refusal}
use Rattle.service_machine.specs.Refusing.Refusal.{Unknown}
use Rattle.service_machine.specs.States.{dropped}
use Rattle.service_machine.specs.Steps.{after_taking}
use Rattle.wire_frame.specs.declared.frame.Frame.TheVariants.{Unsubscribe}
use Rattle.node_core.specs.declared.entry.Entry.TheVariants.{Took}
use Rattle.node_core.specs.Inside.{service_of}
use Rattle.node_core.specs.Taking.{TellsOf, failed_test}
use Rattle.node_core.specs.View.{NodeView, told_all}
use Rattle.node_core.proofs.TakeLemmas.{reads_told, dropped_told, grows_took, says_nothing, counted_longer}
use Rattle.node_core.proofs.EventLemmas.{logs}
use Rattle.node_core.proofs.ShortLemmas.{short_none}
use Rattle.node_core.proofs.node.Node.take_unsubscribe.Goals as goal

-- whether a reader is unknown, by its epoch
unknown : Option ℕ → ℕ → Option Refusal
unknown reads e = if is_epoch reads e then None else Some Unknown

pub record-requires-clause-short : goal.record-requires-clause-short
record-requires-clause-short c = short_none c.new.result c.new.ensures

pub returns-in-Err-clause-refused : goal.returns-in-Err-clause-refused
unfolding unknown
returns-in-Err-clause-refused c =
    let P : NodeView → Type 0 = λ s. TellsOf (failed_test s c.args.sender (TheUnsubscribe c.args.epoch)) c.of_readers.result in
    let Q : Option Refusal → Type 0 = λ o. TellsOf o c.of_readers.result in
    subst P c.self.view_is
    (subst Q (c.in-Err.ensures.exactly ∙ ap (λ o. unknown o c.args.epoch) (sym (reads_told (stamps_of c.self.inside.last) c.self.inside.readers.present c.args.sender))) c.of_readers.ensures)

pub invariant_of-self-2 : goal.invariant_of-self-2
invariant_of-self-2 c =
    record {
      few = c.self.invariant.few;
      within = c.self.invariant.within;
      defined = c.self.invariant.defined;
      in_order = c.self.invariant.in_order;
      within_layout = record {
        few = c.self.invariant.within_layout.few;
        edge_epochs = c.self.invariant.within_layout.edge_epochs;
        reader_epochs = (let P : Reading → Type 0 = λ r. All (λ reader. 1 ≤ reader.1) r.present in
            subst P (sym {A = Reading} c.in_default.ensures.ok) (All-filter (λ (pair : ℕ × ℕ). not (pair.0 == c.args.sender)) (λ (reader : ℕ × ℕ). 1 ≤ reader.1) c.self.inside.readers.present c.self.invariant.within_layout.reader_epochs));
        told = c.self.invariant.within_layout.told;
      };
      counted = counted_longer _ _ _ _ _ c.self.inside.slots.items c.reserve.ensures.same.entries c.record.ensures.entries c.self.invariant.counted;
      matched = c.self.invariant.matched;
    }

pub returns-clause-tested : goal.returns-clause-tested
unfolding unknown
returns-clause-tested c =
    sym (ap (λ (s : NodeView). failed_test s c.args.sender (TheUnsubscribe c.args.epoch)) c.self.view_is)
    ∙ ap (λ o. unknown o c.args.epoch) (reads_told (stamps_of c.self.inside.last) c.self.inside.readers.present c.args.sender)
    ∙ sym c.in_default.ensures.exactly

pub returns-clause-state : goal.returns-clause-state
returns-clause-state c =
    let readers_are : told_all (stamps_of c.self.inside.last) c.unsubscribe.new.self.present ≡ dropped (told_all (stamps_of c.self.inside.last) c.self.inside.readers.present) c.args.sender =
    ap (λ (r : Reading). told_all (stamps_of c.self.inside.last) r.present) c.in_default.ensures.ok ∙ dropped_told (stamps_of c.self.inside.last) c.self.inside.readers.present c.args.sender in
    let past_is : c.unsubscribe.new.self.past ≡ c.self.inside.readers.past = ap (λ (r : Reading). r.past) c.in_default.ensures.ok in
    (λ i. record (service_of c.self.inside).state { readers = readers_are i; past = past_is i })
    ∙ ap (λ (s : NodeView). after_taking c.args.sender (TheUnsubscribe c.args.epoch) s.state) c.self.view_is

pub returns-clause-log : goal.returns-clause-log
returns-clause-log c =
    grows_took c.args.self.now _ c.args.sender c.args.bytes (TheUnsubscribe c.args.epoch) c.reserve.new.self.entries c.reserve.new.self.outbox c.new.result
    c.record.ensures.entries (c.reserve.ensures.same.entries ∙ ap (λ (s : NodeView). s.entries) c.self.view_is)
    c.record.ensures.outbox (c.reserve.ensures.same.outbox ∙ ap (λ (s : NodeView). s.outbox) c.self.view_is)
    (c.record.ensures.handed ∙ c.reserve.ensures.same.handed ∙ ap (λ (s : NodeView). s.handed) c.self.view_is)
    (ap (λ (s : NodeView). s.roster) c.self.view_is) (ap (λ (s : NodeView). s.changes) c.self.view_is)
    (record { frame = Unsubscribe c.args.epoch; frame_of = c.requires.frame; is = refl })
    (says_nothing c.args.sender (TheUnsubscribe c.args.epoch) c.args.self.now.state.last c.new.result c.new.ensures refl)

pub returns-clause-took : goal.returns-clause-took
returns-clause-took c =
    logs c.args.self.now _ (Took c.args.sender c.args.bytes) c.reserve.new.self.entries c.reserve.new.self.outbox c.new.result
    c.record.ensures.entries (c.reserve.ensures.same.entries ∙ ap (λ (s : NodeView). s.entries) c.self.view_is)
    c.record.ensures.outbox (c.reserve.ensures.same.outbox ∙ ap (λ (s : NodeView). s.outbox) c.self.view_is)
