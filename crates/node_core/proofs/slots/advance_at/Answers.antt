use Rattle.std.proofs.Common.{◌≡◌, ◌∙◌, List, length, slice_set, ap, arith}
use Rattle.pred_queue.specs.Capped.{capped}
use Rattle.service_machine.specs.States.{Slot, advanced}
use Rattle.stamp_match.specs.Kept.{slot_in}
use Rattle.svc_value.specs.declared.value.Value.{Value}
use Rattle.node_core.proofs.MatcherLemmas.{as_written}
use Rattle.node_core.proofs.slots.advance_at.Goals as goal

pub returns-clause-slots : goal.returns-clause-slots
returns-clause-slots g c =
    let slots : List (Slot Value) = c.args.slots.now.items in
    let moved : c.advance.new.slots ≡ slice_set slots c.args.place (capped (advanced (slot_in slots c.args.place))) =
    c.advance.ensures.slots ∙ ap (λ (xs : List (Slot Value)). slice_set xs c.args.place (capped (advanced (slot_in xs c.args.place)))) c.as_mut_slice.ensures.value in
    as_written slots c.advance.new.slots _ c.args.slots.now.len c.args.place (capped (advanced (slot_in slots c.args.place))) moved
    (omega (arith, c.as_mut_slice.ensures.len, ap (λ (xs : List (Slot Value)). length xs) c.as_mut_slice.ensures.value))
