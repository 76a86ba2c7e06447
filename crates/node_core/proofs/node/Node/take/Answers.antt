use Rattle.std.proofs.Common.{◌≡◌, ◌∙◌, ℕ, List, None, Ok, refl, ap, length, subst}
use Rattle.std.specs.Prelude.{OnOk, IfErr}
use Rattle.propagation.specs.Logs.{Frame as TheFrame}
use Rattle.propagation.specs.Logs.Frame.{Subscribe as TheSubscribe, Unsubscribe as TheUnsubscribe}
use Rattle.service_machine.specs.States.{Slot}
use Rattle.service_machine.specs.Steps.{after_taking, took_log, with_slots}
use Rattle.svc_graph.specs.declared.kind.Kind.{Kind}
use Rattle.svc_value.specs.declared.value.Value.{Value}
use Rattle.wire_frame.specs.declared.frame.Frame.TheVariants.{Subscribe, Unsubscribe}
use Rattle.wire_frame.specs.Frames.{FrameOf}
use Rattle.wire_frame.specs.Message.{IsMessage}
use Rattle.node_core.specs.declared.entry.Entry.{Entry}
use Rattle.node_core.specs.declared.entry.Entry.TheVariants.{Took}
use Rattle.node_core.specs.declared.errors.TakeRefusal.{TakeRefusal}
use Rattle.node_core.specs.declared.received.Received.{Received}
use Rattle.node_core.specs.Receiving.{Receives, IsReceived}
use Rattle.node_core.specs.Inside.{service_of}
use Rattle.node_core.specs.Taking.{TellsOf, failed_test}
use Rattle.node_core.specs.View.{NodeView, Grows, Logs}
use Rattle.node_core.proofs.ReceivedLemmas.{put_in, in_order_put, counted_put}
use Rattle.node_core.proofs.InputLemmas.{inputs_within}
use Rattle.node_core.proofs.MatcherLemmas.{matched_received}
use Rattle.node_core.proofs.EventLemmas.{logs}
use Rattle.node_core.proofs.ShortLemmas.{short_none}
use Rattle.node_core.proofs.TakeLemmas.{grows_took, says_nothing, longer}
use Rattle.node_core.proofs.TakenLemmas.{takes, refuses, received_tested, received_state, received_quiet}
use Rattle.node_core.proofs.node.Node.take.Goals as goal

-- a service with these slots and this journal
abbrev still_of : NodeView → List (Slot Value) → List Entry → List (ℕ × List ℕ) → ℕ → NodeView
still_of node slots entries outbox handed = record node { state = with_slots slots node.state; entries = entries; outbox = outbox; handed = handed }

-- ---- keys and values

pub record-requires-clause-short : goal.record-requires-clause-short
record-requires-clause-short c = short_none c.new-outgoing.result c.new-outgoing.ensures

pub invariant_of-self-in-Put : goal.invariant_of-self-in-Put
invariant_of-self-in-Put c =
    let slots : List (Slot Value) = c.self.inside.slots.items in
    let new : List (Slot Value) = c.receive.new.slots.items in
    let received = subst (λ (h : Received). Receives c.as_slice-roster.result.now c.self.inside.id c.self.inside.own c.args.sender c.as_slice-lent.result.now slots new h) c.in-Put.is c.in-Ok.ensures.ok in
    let put = put_in c.self.inside.own c.args.sender received.0 slots new received.2.slots in
    record {
      few = c.self.invariant.few;
      within = c.self.invariant.within;
      defined = c.self.invariant.defined;
      in_order = in_order_put c.self.inside.edges c.args.sender slots new put c.self.invariant.in_order;
      within_layout = c.self.invariant.within_layout;
      counted = counted_put c.self.inside.journal.entries c.record.new.self.entries c.args.sender slots new put (longer _ _ _ _ _ c.in-Ok.ensures.same.entries c.record.ensures.entries) c.self.invariant.counted;
      matched = matched_received (length c.self.inside.edges) slots new c.args.sender put.slot c.self.inside.floor c.self.inside.matcher (inputs_within c.self.inside.edges slots c.self.invariant.in_order) put.is put.sender put.head c.self.invariant.matched;
    }

pub returns-in-Put-clause-ok : goal.returns-in-Put-clause-ok
returns-in-Put-clause-ok c =
    let slots : List (Slot Value) = c.self.inside.slots.items in
    let new : List (Slot Value) = c.receive.new.slots.items in
    let node = service_of c.self.inside in
    let told = subst (λ (h : Received). Receives c.as_slice-roster.result.now c.self.inside.id c.self.inside.own c.args.sender c.as_slice-lent.result.now slots new h) c.in-Put.is c.in-Ok.ensures.ok in
    let said : TheFrame Value = told.0 in
    let message : IsMessage c.args.bytes said = subst (λ (bs : List ℕ). IsMessage bs said) c.as_slice-lent.ensures told.1 in
    let received : IsReceived c.self.inside.roster c.self.inside.id c.self.inside.own c.args.sender said slots new =
    subst (λ (kinds : List Kind). IsReceived kinds c.self.inside.id c.self.inside.own c.args.sender said slots new) c.as_slice-roster.ensures told.2 in
    let tested : failed_test c.args.self.now c.args.sender said ≡ None = subst (λ (s : NodeView). failed_test s c.args.sender said ≡ None) c.self.view_is (received_tested node c.args.sender said new received) in
    takes {E = TakeRefusal} (Ok tt) c.args.self.now _ c.args.sender c.args.bytes said message tested
    (received_state node c.args.sender said new received ∙ ap (λ (s : NodeView). after_taking c.args.sender said s.state) c.self.view_is)
    (grows_took c.args.self.now _ c.args.sender c.args.bytes said c.receive.new.journal.entries c.receive.new.journal.outbox c.new-outgoing.result
    c.record.ensures.entries (c.in-Ok.ensures.same.entries ∙ ap (λ (s : NodeView). s.entries) c.self.view_is)
    c.record.ensures.outbox (c.in-Ok.ensures.same.outbox ∙ ap (λ (s : NodeView). s.outbox) c.self.view_is)
    (c.record.ensures.handed ∙ c.in-Ok.ensures.same.handed ∙ ap (λ (s : NodeView). s.handed) c.self.view_is)
    (ap (λ (s : NodeView). s.roster) c.self.view_is) (ap (λ (s : NodeView). s.changes) c.self.view_is)
    message
    (says_nothing c.args.sender said c.args.self.now.state.last c.new-outgoing.result c.new-outgoing.ensures (received_quiet node c.args.sender said new received c.args.self.now.state.last)))

pub returns-in-Put-clause-took : goal.returns-in-Put-clause-took
returns-in-Put-clause-took c =
    logs c.args.self.now _ (Took c.args.sender c.args.bytes) c.receive.new.journal.entries c.receive.new.journal.outbox c.new-outgoing.result
    c.record.ensures.entries (c.in-Ok.ensures.same.entries ∙ ap (λ (s : NodeView). s.entries) c.self.view_is)
    c.record.ensures.outbox (c.in-Ok.ensures.same.outbox ∙ ap (λ (s : NodeView). s.outbox) c.self.view_is)

-- ---- readers

pub returns-in-Subscribe-clause-ok : goal.returns-in-Subscribe-clause-ok
returns-in-Subscribe-clause-ok c =
    let told = subst (λ (h : Received). Receives c.as_slice-roster.result.now c.self.inside.id c.self.inside.own c.args.sender c.as_slice-lent.result.now c.self.inside.slots.items c.receive.new.slots.items h) c.in-Subscribe.is c.in-Ok.ensures.ok in
    let said = TheSubscribe c.in-Subscribe.epoch in
    let message : IsMessage c.args.bytes said = record { frame = Subscribe c.in-Subscribe.epoch; frame_of = subst (λ bs. FrameOf (Subscribe c.in-Subscribe.epoch) bs) c.as_slice-lent.ensures told.0; is = refl } in
    let same = (λ i. still_of (service_of c.self.inside) (told.1 i) (c.in-Ok.ensures.same.entries i) (c.in-Ok.ensures.same.outbox i) (c.in-Ok.ensures.same.handed i)) ∙ c.self.view_is in
    takes c.take_subscribe.result c.args.self.now c.take_subscribe.new.self c.args.sender c.args.bytes said message
    (subst (λ (s : NodeView). OnOk c.take_subscribe.result (failed_test s c.args.sender said ≡ None)) same c.take_subscribe.ensures.tested)
    (subst (λ (s : NodeView). OnOk c.take_subscribe.result (c.take_subscribe.new.self.state ≡ after_taking c.args.sender said s.state)) same c.take_subscribe.ensures.state)
    (subst (λ (s : NodeView). OnOk c.take_subscribe.result (Grows s c.take_subscribe.new.self (took_log c.args.sender said s.state))) same c.take_subscribe.ensures.log)

pub returns-in-Subscribe-clause-took : goal.returns-in-Subscribe-clause-took
returns-in-Subscribe-clause-took c =
    let told = subst (λ (h : Received). Receives c.as_slice-roster.result.now c.self.inside.id c.self.inside.own c.args.sender c.as_slice-lent.result.now c.self.inside.slots.items c.receive.new.slots.items h) c.in-Subscribe.is c.in-Ok.ensures.ok in
    let same = (λ i. still_of (service_of c.self.inside) (told.1 i) (c.in-Ok.ensures.same.entries i) (c.in-Ok.ensures.same.outbox i) (c.in-Ok.ensures.same.handed i)) ∙ c.self.view_is in
    subst (λ (s : NodeView). OnOk c.take_subscribe.result (Logs (Took c.args.sender c.args.bytes) s c.take_subscribe.new.self)) same c.take_subscribe.ensures.took

pub returns-in-Subscribe-clause-refused : goal.returns-in-Subscribe-clause-refused
returns-in-Subscribe-clause-refused c =
    let told = subst (λ (h : Received). Receives c.as_slice-roster.result.now c.self.inside.id c.self.inside.own c.args.sender c.as_slice-lent.result.now c.self.inside.slots.items c.receive.new.slots.items h) c.in-Subscribe.is c.in-Ok.ensures.ok in
    let said = TheSubscribe c.in-Subscribe.epoch in
    let message : IsMessage c.args.bytes said = record { frame = Subscribe c.in-Subscribe.epoch; frame_of = subst (λ bs. FrameOf (Subscribe c.in-Subscribe.epoch) bs) c.as_slice-lent.ensures told.0; is = refl } in
    let same = (λ i. still_of (service_of c.self.inside) (told.1 i) (c.in-Ok.ensures.same.entries i) (c.in-Ok.ensures.same.outbox i) (c.in-Ok.ensures.same.handed i)) ∙ c.self.view_is in
    refuses c.take_subscribe.result c.args.self.now c.args.sender c.args.bytes said message
    (subst (λ (s : NodeView). IfErr c.take_subscribe.result (λ refused. TellsOf (failed_test s c.args.sender said) refused.0)) same c.take_subscribe.ensures.refused)

pub returns-in-Unsubscribe-clause-ok : goal.returns-in-Unsubscribe-clause-ok
returns-in-Unsubscribe-clause-ok c =
    let told = subst (λ (h : Received). Receives c.as_slice-roster.result.now c.self.inside.id c.self.inside.own c.args.sender c.as_slice-lent.result.now c.self.inside.slots.items c.receive.new.slots.items h) c.in-Unsubscribe.is c.in-Ok.ensures.ok in
    let said = TheUnsubscribe c.in-Unsubscribe.epoch in
    let message : IsMessage c.args.bytes said = record { frame = Unsubscribe c.in-Unsubscribe.epoch; frame_of = subst (λ bs. FrameOf (Unsubscribe c.in-Unsubscribe.epoch) bs) c.as_slice-lent.ensures told.0; is = refl } in
    let same = (λ i. still_of (service_of c.self.inside) (told.1 i) (c.in-Ok.ensures.same.entries i) (c.in-Ok.ensures.same.outbox i) (c.in-Ok.ensures.same.handed i)) ∙ c.self.view_is in
    takes c.take_unsubscribe.result c.args.self.now c.take_unsubscribe.new.self c.args.sender c.args.bytes said message
    (subst (λ (s : NodeView). OnOk c.take_unsubscribe.result (failed_test s c.args.sender said ≡ None)) same c.take_unsubscribe.ensures.tested)
    (subst (λ (s : NodeView). OnOk c.take_unsubscribe.result (c.take_unsubscribe.new.self.state ≡ after_taking c.args.sender said s.state)) same c.take_unsubscribe.ensures.state)
    (subst (λ (s : NodeView). OnOk c.take_unsubscribe.result (Grows s c.take_unsubscribe.new.self (took_log c.args.sender said s.state))) same c.take_unsubscribe.ensures.log)

pub returns-in-Unsubscribe-clause-took : goal.returns-in-Unsubscribe-clause-took
returns-in-Unsubscribe-clause-took c =
    let told = subst (λ (h : Received). Receives c.as_slice-roster.result.now c.self.inside.id c.self.inside.own c.args.sender c.as_slice-lent.result.now c.self.inside.slots.items c.receive.new.slots.items h) c.in-Unsubscribe.is c.in-Ok.ensures.ok in
    let same = (λ i. still_of (service_of c.self.inside) (told.1 i) (c.in-Ok.ensures.same.entries i) (c.in-Ok.ensures.same.outbox i) (c.in-Ok.ensures.same.handed i)) ∙ c.self.view_is in
    subst (λ (s : NodeView). OnOk c.take_unsubscribe.result (Logs (Took c.args.sender c.args.bytes) s c.take_unsubscribe.new.self)) same c.take_unsubscribe.ensures.took

pub returns-in-Unsubscribe-clause-refused : goal.returns-in-Unsubscribe-clause-refused
returns-in-Unsubscribe-clause-refused c =
    let told = subst (λ (h : Received). Receives c.as_slice-roster.result.now c.self.inside.id c.self.inside.own c.args.sender c.as_slice-lent.result.now c.self.inside.slots.items c.receive.new.slots.items h) c.in-Unsubscribe.is c.in-Ok.ensures.ok in
    let said = TheUnsubscribe c.in-Unsubscribe.epoch in
    let message : IsMessage c.args.bytes said = record { frame = Unsubscribe c.in-Unsubscribe.epoch; frame_of = subst (λ bs. FrameOf (Unsubscribe c.in-Unsubscribe.epoch) bs) c.as_slice-lent.ensures told.0; is = refl } in
    let same = (λ i. still_of (service_of c.self.inside) (told.1 i) (c.in-Ok.ensures.same.entries i) (c.in-Ok.ensures.same.outbox i) (c.in-Ok.ensures.same.handed i)) ∙ c.self.view_is in
    refuses c.take_unsubscribe.result c.args.self.now c.args.sender c.args.bytes said message
    (subst (λ (s : NodeView). IfErr c.take_unsubscribe.result (λ refused. TellsOf (failed_test s c.args.sender said) refused.0)) same c.take_unsubscribe.ensures.refused)
