use Rattle.std.proofs.Common.{◌≡◌, ◌∙◌, List, None, Some, sym, ap}
use Rattle.service_machine.specs.Refusing.{refuse_put}
use Rattle.service_machine.specs.States.{Slot, put, slot_at, with_slot}
use Rattle.svc_value.specs.declared.value.Value.{Value}
use Rattle.wire_frame.specs.Frames.{pairs}
use Rattle.node_core.specs.Receiving.{place_in}
use Rattle.node_core.proofs.ReceiveLemmas.{slot_sender, place_slot, place_set, no_place_slot}
use Rattle.node_core.proofs.receiving.put.Goals as goal

pub returns-in_default-clause-exactly : goal.returns-in_default-clause-exactly
returns-in_default-clause-exactly c =
    let none : place_in c.args.slots.now.items c.args.sender ≡ None = ap (λ (xs : List (Slot Value)). place_in xs c.args.sender) (sym c.as_slice.ensures.value) ∙ sym c.in_default.ensures in
    sym (ap (λ (z : Slot Value). refuse_put z.announced z.carried c.args.delta.epoch (pairs c.args.delta.clocks)) (no_place_slot c.args.slots.now.items c.args.sender none))

pub returns-in-Ok-clause-exactly : goal.returns-in-Ok-clause-exactly
returns-in-Ok-clause-exactly c =
    let slots : List (Slot Value) = c.args.slots.now.items in
    let at : place_in slots c.args.sender ≡ Some c.in-Some.place = ap (λ (xs : List (Slot Value)). place_in xs c.args.sender) (sym c.as_slice.ensures.value) ∙ sym c.in-Some.ensures in
    c.in-Ok.ensures.exactly
    ∙ ap (λ (z : Slot Value). refuse_put z.announced z.carried c.args.delta.epoch (pairs c.args.delta.clocks)) (sym (place_slot slots c.args.sender c.in-Some.place c.index_mut-slot.result.now at c.index_mut-slot.ensures.value))

pub returns-in-Ok-clause-ok : goal.returns-in-Ok-clause-ok
returns-in-Ok-clause-ok c =
    let slots : List (Slot Value) = c.args.slots.now.items in
    let at : place_in slots c.args.sender ≡ Some c.in-Some.place = ap (λ (xs : List (Slot Value)). place_in xs c.args.sender) (sym c.as_slice.ensures.value) ∙ sym c.in-Some.ensures in
    let new_is : c.put_places.new.self ≡ put c.args.own c.args.delta.epoch c.args.delta.value (pairs c.args.delta.clocks) (slot_at slots c.args.sender) =
    c.in-Ok.ensures.ok
    ∙ ap (λ (z : Slot Value). put c.args.own c.args.delta.epoch c.args.delta.value (pairs c.args.delta.clocks) z) (sym (place_slot slots c.args.sender c.in-Some.place c.index_mut-slot.result.now at c.index_mut-slot.ensures.value)) in
    place_set slots c.args.sender c.in-Some.place c.index_mut-slot.result.now c.put_places.new.self at c.index_mut-slot.ensures.value
    (ap (λ (z : Slot Value). z.sender) new_is ∙ slot_sender slots c.args.sender)
    ∙ ap (λ (z : Slot Value). with_slot z slots) new_is

pub returns-in-Err-clause-exactly : goal.returns-in-Err-clause-exactly
returns-in-Err-clause-exactly c =
    let slots : List (Slot Value) = c.args.slots.now.items in
    let at : place_in slots c.args.sender ≡ Some c.in-Some.place = ap (λ (xs : List (Slot Value)). place_in xs c.args.sender) (sym c.as_slice.ensures.value) ∙ sym c.in-Some.ensures in
    c.in-Err.ensures.exactly
    ∙ ap (λ (z : Slot Value). refuse_put z.announced z.carried c.args.delta.epoch (pairs c.args.delta.clocks)) (sym (place_slot slots c.args.sender c.in-Some.place c.index_mut-slot.result.now at c.index_mut-slot.ensures.value))
