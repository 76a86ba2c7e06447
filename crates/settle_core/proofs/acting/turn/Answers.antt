use Rattle.std.proofs.Common.{◌≡◌, ◌≤◌, ◌+◌, ℕ, List, length, sym, ap, subst, ◌∙◌}
use Rattle.propagation.specs.Logs.{stamps_of}
use Rattle.propagation.specs.Lists.{Has}
use Rattle.service_machine.specs.States.{services}
use Rattle.service_machine.specs.Steps.{targets, after_turning, turn_log}
use Rattle.svc_graph.specs.History.{meaning_of}
use Rattle.node_core.specs.Outbox.{waiting}
use Rattle.node_core.specs.View.{Grows}
use Rattle.node_core.proofs.LegLemmas.{turns_stay}
use Rattle.settle_core.specs.Inside.Table.{link_in}
use Rattle.settle_core.proofs.BoundLemmas.{turn_bounded}
use Rattle.settle_core.proofs.NodeLemmas.{services_told, room_for, outbox_more, node_acts}
use Rattle.settle_core.proofs.acting.turn.Goals as goal

pub reserve_all-requires : goal.reserve_all-requires
reserve_all-requires c = λ q has.
    let told : targets c.readers.result.now ≡ services c.args.node.now.state.readers = sym (services_told (stamps_of c.args.node.now.state.last) c.readers.result.now) ∙ ap services c.readers.ensures in
    let P : List ℕ → Type 0 = λ ps. Has ps q in c.requires.readers q (subst P told has)

pub hand_over-requires-clause-room : goal.hand_over-requires-clause-room
hand_over-requires-clause-room c = λ q.
    let told : targets c.readers.result.now ≡ services c.args.node.now.state.readers = sym (services_told (stamps_of c.args.node.now.state.last) c.readers.result.now) ∙ ap services c.readers.ensures in
    let grows : Grows c.args.node.now c.turned.new.node (turn_log meaning_of c.args.node.now.state) = c.in_ok-answer.ensures.log in
    let P : List (ℕ × List ℕ) → Type 0 = λ outgoing_frames. length (waiting q outgoing_frames) ≤ (link_in c.reserve_all.new.links.items q c.args.id).spare in
    subst P (sym (outbox_more c.args.node.now c.turned.new.node (turn_log meaning_of c.args.node.now.state) grows c.requires.ready.handed))
    (room_for grows.more (turn_log meaning_of c.args.node.now.state) grows.says (services c.args.node.now.state.readers) c.args.id c.reserve_all.new.links.items
    (turn_bounded meaning_of c.args.node.now.state c.requires.once)
    (λ r has. let Q : List ℕ → Type 0 = λ ps. Has ps r in c.in_ok-reserve_all.ensures.room r (subst Q (sym told) has)) q)

pub returns-clause-acts : goal.returns-clause-acts
returns-clause-acts c =
    node_acts c.args.id (c.turned.new.node.handed + length c.turned.new.node.outbox) (after_turning meaning_of c.args.node.now.state) (turn_log meaning_of c.args.node.now.state)
    c.args.node.now c.turned.new.node c.hand_over.new.node c.args.links.now.items c.reserve_all.new.links.items c.hand_over.new.links.items
    c.in_ok-answer.ensures.state c.in_ok-answer.ensures.log (turns_stay c.args.node.now c.turned.new.node c.in_ok-answer.ensures.state c.in_ok-answer.ensures.log) c.requires.ready.handed (λ p. (turn_bounded meaning_of c.args.node.now.state c.requires.once).taken_same p)
    c.hand_over.ensures.node c.in_ok-reserve_all.ensures.same.waiting c.hand_over.ensures.len c.hand_over.ensures.links
