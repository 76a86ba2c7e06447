use Rattle.std.proofs.Common.{◌∙◌, ◌++◌, ◌∷◌, [], List, sym, ap, arith, append_assoc, length-append}
use Rattle.service_machine.specs.States.{Slot}
use Rattle.svc_value.specs.declared.value.Value.{Value}
use Rattle.node_core.specs.Rewiring.{cut_rest}
use Rattle.node_core.proofs.CutLemmas.{rest_snoc}
use Rattle.node_core.proofs.rewiring.cut_all.Goals as goal

pub loop-slot-preserved : goal.loop-slot-preserved
loop-slot-preserved c = (
  c.push_reserved.ensures.items ∙ ap (λ (xs : List (Slot Value)). xs ++ c.cut.new.self ∷ []) c.loop-slot.invariant.0
      ∙ append_assoc c.args.new.now.items (cut_rest c.args.clock c.loop-slot.yielded) (c.cut.new.self ∷ [])
      ∙ ap (λ (xs : List (Slot Value)). c.args.new.now.items ++ xs) (ap (λ (z : Slot Value). cut_rest c.args.clock c.loop-slot.yielded ++ z ∷ []) c.cut.ensures ∙ sym (rest_snoc c.args.clock c.loop-slot.yielded c.in-Some.slot)),
  c.push_reserved.ensures.capacity ∙ c.loop-slot.invariant.1,
  omega (arith, c.push_reserved.ensures.len, c.loop-slot.invariant.2, length-append c.loop-slot.yielded (c.in-Some.slot ∷ [])),
)
