use Rattle.std.proofs.Common.{◌≡◌, ◌∙◌, true, ap, subst}
use Rattle.service_machine.specs.States.{slot_at, has_next}
use Rattle.service_machine.specs.Turning.{Choice}
use Rattle.service_machine.specs.Turning.Choice.{Advance, Empty as Lacks, Lags as Trails}
use Rattle.service_machine.specs.Steps.{choice_of, turned_to}
use Rattle.stamp_match.specs.Named.{sender_at}
use Rattle.svc_graph.specs.History.{meaning_of}
use Rattle.node_core.specs.declared.turned.Turned.TheVariants.{Empty, Lags}
use Rattle.node_core.specs.Answers.{IsAnswer}
use Rattle.node_core.specs.Inside.{service_of}
use Rattle.node_core.specs.View.{NodeView}
use Rattle.node_core.proofs.AdvanceLemmas.{chosen_at, chosen_has_next}
use Rattle.node_core.proofs.node.Node.turn.Goals as goal

pub advance-requires-clause-next : goal.advance-requires-clause-next
advance-requires-clause-next g c =
    let P : NodeView → Type 0 = λ s. has_next (slot_at s.state.slots (sender_at s.state.slots c.in-Advance.place)) ≡ true in
    subst P c.self.view_is (chosen_has_next (service_of c.self.inside).state (sender_at c.self.inside.slots.items c.in-Advance.place) c.self.invariant.in_order
    (chosen_at (service_of c.self.inside).state c.inputs_of-inputs.result.now c.as_slice.result.now c.in-Advance.place (λ p. Advance p) c.inputs_of-inputs.ensures.slots c.inputs_of-inputs.ensures.first c.as_slice.ensures.value
    c.inputs_of-inputs.ensures.len c.in-Advance.ensures.slot c.in-Advance.ensures.table))

pub returns-in-Advance-clause-state : goal.returns-in-Advance-clause-state
returns-in-Advance-clause-state g c =
    let P : NodeView → Type 0 = λ s. Advance (sender_at s.state.slots c.in-Advance.place) ≡ choice_of s.state in
    let chose : Advance (sender_at c.args.self.now.state.slots c.in-Advance.place) ≡ choice_of c.args.self.now.state =
    subst P c.self.view_is (chosen_at (service_of c.self.inside).state c.inputs_of-inputs.result.now c.as_slice.result.now c.in-Advance.place (λ p. Advance p) c.inputs_of-inputs.ensures.slots c.inputs_of-inputs.ensures.first c.as_slice.ensures.value
    c.inputs_of-inputs.ensures.len c.in-Advance.ensures.slot c.in-Advance.ensures.table) in
    ap (λ (s : NodeView). s.state) c.advance.ensures.state ∙ ap (λ (ch : Choice). turned_to meaning_of c.args.self.now.state ch) chose

pub returns-in-Empty-clause-answer : goal.returns-in-Empty-clause-answer
returns-in-Empty-clause-answer g c =
    let P : NodeView → Type 0 = λ s. Lacks (sender_at s.state.slots c.in-Empty.place) ≡ choice_of s.state in
    let chose : Lacks (sender_at c.args.self.now.state.slots c.in-Empty.place) ≡ choice_of c.args.self.now.state =
    subst P c.self.view_is (chosen_at (service_of c.self.inside).state c.inputs_of-inputs.result.now c.as_slice.result.now c.in-Empty.place (λ p. Lacks p) c.inputs_of-inputs.ensures.slots c.inputs_of-inputs.ensures.first c.as_slice.ensures.value
    c.inputs_of-inputs.ensures.len c.in-Empty.ensures.slot c.in-Empty.ensures.table) in
    let Q : Choice → Type 0 = λ ch. IsAnswer ch (Empty c.sender.result) in
    subst Q chose (ap (λ p. Empty p) c.sender.ensures)

pub returns-in-Lags-clause-answer : goal.returns-in-Lags-clause-answer
returns-in-Lags-clause-answer g c =
    let P : NodeView → Type 0 = λ s. Trails (sender_at s.state.slots c.in-Lags.slot) c.in-Lags.key ≡ choice_of s.state in
    let chose : Trails (sender_at c.args.self.now.state.slots c.in-Lags.slot) c.in-Lags.key ≡ choice_of c.args.self.now.state =
    subst P c.self.view_is (chosen_at (service_of c.self.inside).state c.inputs_of-inputs.result.now c.as_slice.result.now c.in-Lags.slot (λ p. Trails p c.in-Lags.key) c.inputs_of-inputs.ensures.slots c.inputs_of-inputs.ensures.first c.as_slice.ensures.value
    c.inputs_of-inputs.ensures.len c.in-Lags.ensures.slot c.in-Lags.ensures.table) in
    let Q : Choice → Type 0 = λ ch. IsAnswer ch (Lags c.sender-in-Lags.result c.in-Lags.key) in
    subst Q chose (ap (λ p. Lags p c.in-Lags.key) c.sender-in-Lags.ensures)
