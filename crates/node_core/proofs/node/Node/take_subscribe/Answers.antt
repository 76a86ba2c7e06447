use Rattle.std.proofs.Common.{◌≡◌, ◌≤◌, ◌∙◌, ◌∷◌, [], List, ℕ, Option, refl, sym, ap, subst}
use Rattle.std.specs.Prelude.{All}
use Rattle.std.proofs.lemmas.List.Elements.{All-append, All-nil, All-cons}
use Rattle.propagation.specs.Logs.{stamps_of, reply}
use Rattle.propagation.specs.Logs.Frame.{Subscribe as TheSubscribe}
use Rattle.propagation.specs.Stamps.{clock_of}
use Rattle.rewire_core.specs.Reading.{Reading}
use Rattle.service_machine.specs.Refusing.{Refusal, refuse_subscribe, is_below}
use Rattle.service_machine.specs.States.{epoch_in}
use Rattle.service_machine.specs.Steps.{sends_to}
use Rattle.svc_graph.specs.declared.kind.Kind.{Kind}
use Rattle.wire_frame.specs.declared.frame.Frame.TheVariants.{Subscribe}
use Rattle.node_core.specs.declared.entry.Entry.TheVariants.{Took}
use Rattle.node_core.specs.Inside.{service_of}
use Rattle.node_core.specs.Outgoing.{Says}
use Rattle.node_core.specs.Ranks.{rank_in}
use Rattle.node_core.specs.Taking.{TellsOf, failed_test}
use Rattle.node_core.specs.View.{NodeView}
use Rattle.node_core.proofs.TakeLemmas.{reads_told, grows_took, counted_longer}
use Rattle.node_core.proofs.EventLemmas.{logs}
use Rattle.node_core.proofs.ShortLemmas.{says_short}
use Rattle.node_core.proofs.node.Node.take_subscribe.Goals as goal

pub record-outgoing-requires-clause-short : goal.record-outgoing-requires-clause-short
record-outgoing-requires-clause-short c = says_short c.in-Ok.outgoing _ c.in-Ok.ensures.says

pub returns-in-Err-clause-refused : goal.returns-in-Err-clause-refused
returns-in-Err-clause-refused c =
    let above_is = c.is_below-above.ensures ∙ ap (λ (kinds : List Kind). is_below (rank_in kinds c.self.inside.id) (rank_in kinds c.args.sender)) c.as_slice.ensures in
    let reads_are = sym (reads_told (stamps_of c.self.inside.last) c.self.inside.readers.present c.args.sender) in
    let test_is : refuse_subscribe c.is_below-above.result (epoch_in c.self.inside.readers.present c.args.sender) (clock_of c.self.inside.readers.past c.args.sender) c.args.epoch ≡ failed_test (service_of c.self.inside) c.args.sender (TheSubscribe c.args.epoch) =
    (λ i. refuse_subscribe (above_is i) (reads_are i) (clock_of c.self.inside.readers.past c.args.sender) c.args.epoch) in
    let P : NodeView → Type 0 = λ s. TellsOf (failed_test s c.args.sender (TheSubscribe c.args.epoch)) c.of_readers.result in
    let Q : Option Refusal → Type 0 = λ o. TellsOf o c.of_readers.result in
    subst P c.self.view_is (subst Q (c.in-Err.ensures.exactly ∙ test_is) c.of_readers.ensures)

pub invariant_of-self-2 : goal.invariant_of-self-2
invariant_of-self-2 c =
    record {
      few = c.self.invariant.few;
      within = c.self.invariant.within;
      defined = c.self.invariant.defined;
      in_order = c.self.invariant.in_order;
      within_layout = record {
        few = c.self.invariant.within_layout.few;
        edge_epochs = c.self.invariant.within_layout.edge_epochs;
        reader_epochs = (let P : Reading → Type 0 = λ r. All (λ reader. 1 ≤ reader.1) r.present in
            subst P (sym {A = Reading} c.in_default-subscribe.ensures.ok)
            (All-append (λ (reader : ℕ × ℕ). 1 ≤ reader.1) c.self.inside.readers.present ((c.args.sender, c.args.epoch) ∷ []) c.self.invariant.within_layout.reader_epochs
            (All-cons (λ (reader : ℕ × ℕ). 1 ≤ reader.1) (c.args.sender, c.args.epoch) [] c.requires.frame.within (All-nil (λ (reader : ℕ × ℕ). 1 ≤ reader.1)))));
        told = c.self.invariant.within_layout.told;
      };
      counted = counted_longer _ _ _ _ _ c.self.inside.slots.items c.in-Ok.ensures.same.entries c.record-outgoing.ensures.entries c.self.invariant.counted;
      matched = c.self.invariant.matched;
    }

pub returns-clause-tested : goal.returns-clause-tested
returns-clause-tested c =
    let above_is = c.is_below-above.ensures ∙ ap (λ (kinds : List Kind). is_below (rank_in kinds c.self.inside.id) (rank_in kinds c.args.sender)) c.as_slice.ensures in
    let reads_are = sym (reads_told (stamps_of c.self.inside.last) c.self.inside.readers.present c.args.sender) in
    let test_is : refuse_subscribe c.is_below-above.result (epoch_in c.self.inside.readers.present c.args.sender) (clock_of c.self.inside.readers.past c.args.sender) c.args.epoch ≡ failed_test (service_of c.self.inside) c.args.sender (TheSubscribe c.args.epoch) =
    (λ i. refuse_subscribe (above_is i) (reads_are i) (clock_of c.self.inside.readers.past c.args.sender) c.args.epoch) in
    sym (c.in_default-subscribe.ensures.exactly ∙ test_is ∙ ap (λ (s : NodeView). failed_test s c.args.sender (TheSubscribe c.args.epoch)) c.self.view_is)

pub returns-clause-log : goal.returns-clause-log
returns-clause-log c =
    grows_took c.args.self.now _ c.args.sender c.args.bytes (TheSubscribe c.args.epoch) c.staged_welcome.new.journal.entries c.staged_welcome.new.journal.outbox c.in-Ok.outgoing
    c.record-outgoing.ensures.entries (c.in-Ok.ensures.same.entries ∙ ap (λ (s : NodeView). s.entries) c.self.view_is)
    c.record-outgoing.ensures.outbox (c.in-Ok.ensures.same.outbox ∙ ap (λ (s : NodeView). s.outbox) c.self.view_is)
    (c.record-outgoing.ensures.handed ∙ c.in-Ok.ensures.same.handed ∙ ap (λ (s : NodeView). s.handed) c.self.view_is)
    (ap (λ (s : NodeView). s.roster) c.self.view_is) (ap (λ (s : NodeView). s.changes) c.self.view_is)
    (record { frame = Subscribe c.args.epoch; frame_of = c.requires.frame; is = refl })
    (let P : NodeView → Type 0 = λ s. Says c.in-Ok.outgoing (sends_to c.args.sender (reply (TheSubscribe c.args.epoch) s.state.last)) in subst P c.self.view_is c.in-Ok.ensures.says)

pub returns-clause-took : goal.returns-clause-took
returns-clause-took c =
    logs c.args.self.now _ (Took c.args.sender c.args.bytes) c.staged_welcome.new.journal.entries c.staged_welcome.new.journal.outbox c.in-Ok.outgoing
    c.record-outgoing.ensures.entries (c.in-Ok.ensures.same.entries ∙ ap (λ (s : NodeView). s.entries) c.self.view_is)
    c.record-outgoing.ensures.outbox (c.in-Ok.ensures.same.outbox ∙ ap (λ (s : NodeView). s.outbox) c.self.view_is)
