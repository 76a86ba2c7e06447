use Rattle.std.proofs.Common.{List, ◌<◌, length, refl, sym, subst, ◌∙◌}
use Rattle.service_machine.specs.Steps.{after_turning, turn_log, after_changing, done_log}
use Rattle.service_machine.specs.Noting.{change_note}
use Rattle.service_machine.specs.Systems.Event.{Do as TheDo, Take as TheTake, Turn as TheTurn}
use Rattle.propagation.specs.Notes.{Note}
use Rattle.svc_graph.specs.History.{dependencies, meaning_of}
use Rattle.svc_graph.specs.declared.definition.Definition.{Definition}
use Rattle.settle_core.specs.declared.event.Event.{Event}
use Rattle.settle_core.specs.Inside.Acting.{CanDo}
use Rattle.settle_core.specs.Events.{AreDeclared, Happens, event_of, note_of, turn_note}
use Rattle.settle_core.specs.Net.{NetworkView, service_at}
use Rattle.settle_core.specs.Inside.Table.{waiting_in}
use Rattle.settle_core.proofs.EventLemmas.{turn_can, do_can, take_can, turn_happens, do_happens, take_happens, take_goes_on, done_note, network_goes_on}
use Rattle.settle_core.proofs.network.Network.make.Goals as goal

pub turn-requires-clause-can : goal.turn-requires-clause-can
turn-requires-clause-can c =
    let P : Event → Type 0 = λ e. AreDeclared (length c.args.self.now.rows) e in
    let Q : NetworkView → Type 0 = λ v. c.in-Turn.id < length v.rows in
    let declared : c.in-Turn.id < length c.self.inside.book = subst Q (sym {A = NetworkView} c.self.view_is) (subst P c.in-Turn.is c.requires) in
    turn_can c.self.inside.book c.self.inside.nodes.items c.self.inside.links.items c.self.invariant c.in-Turn.id declared

pub invariant_of-self-in-Turn : goal.invariant_of-self-in-Turn
invariant_of-self-in-Turn c =
    let old : NetworkView = record { rows = c.self.inside.book; services = c.self.inside.nodes.items; links = waiting_in c.self.inside.links.items } in
    let new : NetworkView = record { rows = c.self.inside.book; services = c.turn.new.nodes.items; links = waiting_in c.turn.new.links.items } in
    network_goes_on old new c.self.invariant refl c.in-Turn.id (after_turning meaning_of (service_at c.self.inside.nodes.items c.in-Turn.id).state) (turn_log meaning_of (service_at c.self.inside.nodes.items c.in-Turn.id).state)
    c.in_ok-answer-in-Turn.ensures.acts (TheTurn c.in-Turn.id) (turn_note c.in_ok-answer-in-Turn.answer)
    (turn_happens old new c.self.invariant refl c.in-Turn.id c.in_ok-answer-in-Turn.answer c.in_ok-answer-in-Turn.ensures.acts c.in_ok-answer-in-Turn.ensures.answer)

pub returns-in_ok-answer-in-Turn-clause-happened : goal.returns-in_ok-answer-in-Turn-clause-happened
returns-in_ok-answer-in-Turn-clause-happened c =
    let old : NetworkView = record { rows = c.self.inside.book; services = c.self.inside.nodes.items; links = waiting_in c.self.inside.links.items } in
    let new : NetworkView = record { rows = c.self.inside.book; services = c.turn.new.nodes.items; links = waiting_in c.turn.new.links.items } in
    let P : NetworkView → Type 0 = λ v. Happens (event_of c.args.event) (turn_note c.in_ok-answer-in-Turn.answer) v new in
    let Q : Event → Type 0 = λ e. Happens (event_of e) (turn_note c.in_ok-answer-in-Turn.answer) old new in
    subst P c.self.view_is (subst Q (sym c.in-Turn.is) (turn_happens old new c.self.invariant refl c.in-Turn.id c.in_ok-answer-in-Turn.answer c.in_ok-answer-in-Turn.ensures.acts c.in_ok-answer-in-Turn.ensures.answer))

pub do_next-requires-clause-can : goal.do_next-requires-clause-can
do_next-requires-clause-can c =
    let P : Event → Type 0 = λ e. AreDeclared (length c.args.self.now.rows) e in
    let Q : NetworkView → Type 0 = λ v. c.in-Do.id < length v.rows in
    let R : List Definition → Type 0 = λ h. CanDo c.in-Do.id (service_at c.self.inside.nodes.items c.in-Do.id) h (length c.self.inside.links.items) in
    let declared : c.in-Do.id < length c.self.inside.book = subst Q (sym {A = NetworkView} c.self.view_is) (subst P c.in-Do.is c.requires) in
    subst R (sym c.history-history.ensures.history) (do_can c.self.inside.book c.self.inside.nodes.items c.self.inside.links.items c.self.invariant c.in-Do.id declared)

pub invariant_of-self-in-Do : goal.invariant_of-self-in-Do
invariant_of-self-in-Do c =
    let old : NetworkView = record { rows = c.self.inside.book; services = c.self.inside.nodes.items; links = waiting_in c.self.inside.links.items } in
    let new : NetworkView = record { rows = c.self.inside.book; services = c.do_next.new.nodes.items; links = waiting_in c.do_next.new.links.items } in
    let state = (service_at c.self.inside.nodes.items c.in-Do.id).state in
    network_goes_on old new c.self.invariant refl c.in-Do.id (after_changing dependencies state) (done_log dependencies state)
    c.in_ok-is_done-in-Do.ensures.acts (TheDo c.in-Do.id) (change_note state.left) (do_happens old new c.self.invariant refl c.in-Do.id (change_note state.left) c.in_ok-is_done-in-Do.ensures.acts refl)

pub returns-in_ok-is_done-in-Do-clause-happened : goal.returns-in_ok-is_done-in-Do-clause-happened
returns-in_ok-is_done-in-Do-clause-happened c =
    let old : NetworkView = record { rows = c.self.inside.book; services = c.self.inside.nodes.items; links = waiting_in c.self.inside.links.items } in
    let new : NetworkView = record { rows = c.self.inside.book; services = c.do_next.new.nodes.items; links = waiting_in c.do_next.new.links.items } in
    let state = (service_at c.self.inside.nodes.items c.in-Do.id).state in
    let note = note_of c.of_change.result in
    let P : NetworkView → Type 0 = λ v. Happens (event_of c.args.event) note v new in
    let Q : Event → Type 0 = λ e. Happens (event_of e) note old new in
    subst P c.self.view_is (subst Q (sym c.in-Do.is) (do_happens old new c.self.invariant refl c.in-Do.id note c.in_ok-is_done-in-Do.ensures.acts (c.of_change.ensures.note ∙ done_note state.left c.in_ok-is_done-in-Do.is_done c.in_ok-is_done-in-Do.ensures.answer)))

pub take-requires-clause-can : goal.take-requires-clause-can
take-requires-clause-can c =
    let P : Event → Type 0 = λ e. AreDeclared (length c.args.self.now.rows) e in
    let Q : NetworkView → Type 0 = λ v. (c.in-Take.reader < length v.rows) × (c.in-Take.sender < length v.rows) in
    let declared : (c.in-Take.reader < length c.self.inside.book) × (c.in-Take.sender < length c.self.inside.book) = subst Q (sym {A = NetworkView} c.self.view_is) (subst P c.in-Take.is c.requires) in
    take_can c.self.inside.book c.self.inside.nodes.items c.self.inside.links.items c.self.invariant c.in-Take.reader declared.0 c.in-Take.sender declared.1

pub invariant_of-self-in-Take : goal.invariant_of-self-in-Take
invariant_of-self-in-Take c =
    let P : Event → Type 0 = λ e. AreDeclared (length c.args.self.now.rows) e in
    let Q : NetworkView → Type 0 = λ v. (c.in-Take.reader < length v.rows) × (c.in-Take.sender < length v.rows) in
    let declared : (c.in-Take.reader < length c.self.inside.book) × (c.in-Take.sender < length c.self.inside.book) = subst Q (sym {A = NetworkView} c.self.view_is) (subst P c.in-Take.is c.requires) in
    let old : NetworkView = record { rows = c.self.inside.book; services = c.self.inside.nodes.items; links = waiting_in c.self.inside.links.items } in
    let new : NetworkView = record { rows = c.self.inside.book; services = c.take.new.nodes.items; links = waiting_in c.take.new.links.items } in
    let takes = c.in_ok-is_taken-in-Take.ensures.takes in
    take_goes_on old new c.self.invariant refl c.in-Take.reader c.in-Take.sender declared.0 declared.1 takes.others takes.count c.in_ok-is_taken-in-Take.is_taken takes.node

pub returns-in_ok-is_taken-in-Take-clause-happened : goal.returns-in_ok-is_taken-in-Take-clause-happened
returns-in_ok-is_taken-in-Take-clause-happened c =
    let S : Event → Type 0 = λ e. AreDeclared (length c.args.self.now.rows) e in
    let R : NetworkView → Type 0 = λ v. (c.in-Take.reader < length v.rows) × (c.in-Take.sender < length v.rows) in
    let declared : (c.in-Take.reader < length c.self.inside.book) × (c.in-Take.sender < length c.self.inside.book) = subst R (sym {A = NetworkView} c.self.view_is) (subst S c.in-Take.is c.requires) in
    let old : NetworkView = record { rows = c.self.inside.book; services = c.self.inside.nodes.items; links = waiting_in c.self.inside.links.items } in
    let new : NetworkView = record { rows = c.self.inside.book; services = c.take.new.nodes.items; links = waiting_in c.take.new.links.items } in
    let takes = c.in_ok-is_taken-in-Take.ensures.takes in
    let note = note_of c.of_take.result in
    let P : NetworkView → Type 0 = λ v. Happens (event_of c.args.event) note v new in
    let Q : Event → Type 0 = λ e. Happens (event_of e) note old new in
    let N : Note → Type 0 = λ m. Happens (TheTake c.in-Take.reader c.in-Take.sender) m old new in
    subst P c.self.view_is (subst Q (sym c.in-Take.is) (subst N (sym {A = Note} c.of_take.ensures.note)
    (take_happens old new c.self.invariant refl c.in-Take.reader c.in-Take.sender declared.0 declared.1 takes.others takes.count c.in_ok-is_taken-in-Take.is_taken takes.node)))
