use Rattle.std.proofs.Common.{◌≡◌, ◌∙◌, ◌++◌, ◌∷◌, [], List, None, Some, sym, ap}
use Rattle.std.proofs.lemmas.Result.{on_ok_weaker}
use Rattle.service_machine.specs.Refusing.{refuse_back}
use Rattle.service_machine.specs.States.{Slot, announced_to, slot_at, with_slot}
use Rattle.svc_value.specs.declared.value.Value.{Value}
use Rattle.node_core.specs.Receiving.{place_in}
use Rattle.node_core.proofs.ReceiveLemmas.{slot_sender, place_slot, place_set, no_place_slot, no_place_set}
use Rattle.node_core.proofs.receiving.announce.Goals as goal

pub returns-then-is_err-clause-exactly : goal.returns-then-is_err-clause-exactly
returns-then-is_err-clause-exactly c =
    let none : place_in c.args.slots.now.items c.args.sender ≡ None = ap (λ (xs : List (Slot Value)). place_in xs c.args.sender) (sym c.as_slice.ensures.value) ∙ sym c.in_default.ensures in
    sym (ap (λ (z : Slot Value). refuse_back z.announced c.args.announced.epoch) (no_place_slot c.args.slots.now.items c.args.sender none))

pub returns-in_default-clause-exactly : goal.returns-in_default-clause-exactly
returns-in_default-clause-exactly c =
    let none : place_in c.args.slots.now.items c.args.sender ≡ None = ap (λ (xs : List (Slot Value)). place_in xs c.args.sender) (sym c.as_slice.ensures.value) ∙ sym c.in_default.ensures in
    sym (ap (λ (z : Slot Value). refuse_back z.announced c.args.announced.epoch) (no_place_slot c.args.slots.now.items c.args.sender none))

pub returns-in_default-clause-ok : goal.returns-in_default-clause-ok
returns-in_default-clause-ok c =
    let slots : List (Slot Value) = c.args.slots.now.items in
    let none : place_in slots c.args.sender ≡ None = ap (λ (xs : List (Slot Value)). place_in xs c.args.sender) (sym c.as_slice.ensures.value) ∙ sym c.in_default.ensures in
    let empty = no_place_slot slots c.args.sender none in
    let new_is : c.announce_keys.new.self ≡ announced_to c.args.announced.epoch c.args.announced.keys (slot_at slots c.args.sender) =
    c.in_ok-announce_keys.ensures.ok ∙ ap (λ (z : Slot Value). announced_to c.args.announced.epoch c.args.announced.keys z) (c.new-slot.ensures ∙ sym empty) in
    c.push_reserved.ensures.items ∙ ap (λ (xs : List (Slot Value)). xs ++ c.announce_keys.new.self ∷ []) c.reserve.ensures.items
    ∙ no_place_set slots c.args.sender c.announce_keys.new.self none (ap (λ (z : Slot Value). z.sender) new_is ∙ ap (λ (z : Slot Value). z.sender) empty)
    ∙ ap (λ (z : Slot Value). with_slot z slots) new_is

pub returns-clause-exactly : goal.returns-clause-exactly
returns-clause-exactly c =
    let slots : List (Slot Value) = c.args.slots.now.items in
    let at : place_in slots c.args.sender ≡ Some c.in-Some.place = ap (λ (xs : List (Slot Value)). place_in xs c.args.sender) (sym c.as_slice.ensures.value) ∙ sym c.in-Some.ensures in
    c.announce_keys-2.ensures.exactly ∙ ap (λ (z : Slot Value). refuse_back z.announced c.args.announced.epoch) (sym (place_slot slots c.args.sender c.in-Some.place c.index_mut-slot.result.now at c.index_mut-slot.ensures.value))

pub returns-clause-ok : goal.returns-clause-ok
returns-clause-ok c =
    let slots : List (Slot Value) = c.args.slots.now.items in
    let at : place_in slots c.args.sender ≡ Some c.in-Some.place = ap (λ (xs : List (Slot Value)). place_in xs c.args.sender) (sym c.as_slice.ensures.value) ∙ sym c.in-Some.ensures in
    let here = place_slot slots c.args.sender c.in-Some.place c.index_mut-slot.result.now at c.index_mut-slot.ensures.value in
    on_ok_weaker c.announce_keys-2.result
    (λ (ok : c.announce_keys-2.new.self ≡ announced_to c.args.announced.epoch c.args.announced.keys c.index_mut-slot.result.now).
    let new_is : c.announce_keys-2.new.self ≡ announced_to c.args.announced.epoch c.args.announced.keys (slot_at slots c.args.sender) = ok ∙ ap (λ (z : Slot Value). announced_to c.args.announced.epoch c.args.announced.keys z) (sym here) in
    place_set slots c.args.sender c.in-Some.place c.index_mut-slot.result.now c.announce_keys-2.new.self at c.index_mut-slot.ensures.value
    (ap (λ (z : Slot Value). z.sender) new_is ∙ slot_sender slots c.args.sender)
    ∙ ap (λ (z : Slot Value). with_slot z slots) new_is)
    c.announce_keys-2.ensures.ok
