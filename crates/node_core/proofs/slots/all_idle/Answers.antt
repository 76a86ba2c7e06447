use Rattle.std.proofs.Common.{arith, rules, ◌≡◌, ℕ, []}
use Rattle.node_core.proofs.SlotLemmas.{one_is_busy, all_are_idle}
use Rattle.service_machine.specs.States.{slot_at}
use Rattle.node_core.proofs.slots.all_idle.Goals as goal

pub returns-then-not-is_idle : goal.returns-then-not-is_idle
returns-then-not-is_idle c = (
  λ t. absurd (cc t),
  λ (idle : (p : ℕ) → (slot_at c.args.slots.now p).queue ≡ []).
      absurd (one_is_busy c.args.slots.now c.loop-slot.slot-index c.slot-item.result c.requires c.loop-slot-test.true c.slot-item.is
      (λ (e : c.slot-item.result.queue ≡ []). let t = c.if-not-is_idle.ensures.1 e in cc t) idle),
)

pub returns : goal.returns
returns c = (λ t. all_are_idle c.args.slots.now (λ k s lt. c.loop-slot.invariant k s (omega (arith, lt, c.loop-slot-test.false))), λ idle. search rules)
