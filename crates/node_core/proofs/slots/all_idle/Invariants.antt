use Rattle.std.proofs.Common.{◌≡◌, ◌<◌, ℕ, [], slice_index_or}
use Rattle.service_machine.specs.States.{Slot}
use Rattle.svc_value.specs.declared.value.Value.{Value}
use Rattle.node_core.proofs.slots.all_idle.Given as goal

abbrev pub invariant-loop-slot : goal.invariant-loop-slot
invariant-loop-slot l = (k : ℕ) (s : Slot Value) → k < l.slot-index → (slice_index_or l.slots k s).queue ≡ []
