use Rattle.std.proofs.Common.{◌≡◌, arith, ◌+◌, Option, sym, subst, ap, ◌∙◌}
use Rattle.propagation.specs.Stamps.{Stamps}
use Rattle.svc_value.specs.declared.value.Value.{Value}
use Rattle.service_machine.specs.States.{Slot}
use Rattle.stamp_match.specs.Falling.{AreHeld}
use Rattle.stamp_match.specs.Kept.{slot_in}
use Rattle.stamp_match.specs.Looks.{keys_in}
use Rattle.stamp_match.proofs.TurnLemmas.{head-at, slot-at}
use Rattle.stamp_match.proofs.held.held_at.Goals as goal

pub returns-clause-held : goal.returns-clause-held
returns-clause-held g c =
    subst (λ (o : Option Stamps). AreHeld c.args.greatest_clocks.now c.args.floor.now o c.held_by.result)
    (sym (head-at c.args.slots.now c.args.place c.index-slots-place.result c.requires c.index-slots-place.is)) c.held_by.ensures.held

pub returns-clause-looks : goal.returns-clause-looks
returns-clause-looks g c =
    c.held_by.ensures.looks ∙ ap (λ (s : Slot Value). c.args.looks.now + keys_in s.head) (sym (slot-at c.args.slots.now c.args.place c.index-slots-place.result c.requires c.index-slots-place.is))

pub returns-clause-few : goal.returns-clause-few
returns-clause-few g c =
    let keys : keys_in (slot_in c.args.slots.now c.args.place).head ≡ keys_in c.index-slots-place.result.head =
    ap (λ (s : Slot Value). keys_in s.head) (slot-at c.args.slots.now c.args.place c.index-slots-place.result c.requires c.index-slots-place.is) in
    omega (arith, c.held_by.ensures.few)
