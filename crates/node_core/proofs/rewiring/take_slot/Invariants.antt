use Rattle.std.proofs.Common.{◌≡◌, ◌++◌, take, drop}
use Rattle.service_machine.specs.States.{slot_at}
use Rattle.node_core.specs.Rewiring.{left_without}
use Rattle.node_core.proofs.rewiring.take_slot.Given as goal

abbrev pub invariant-loop-i : goal.invariant-loop-i
invariant-loop-i l =
    (slot_at (drop l.i l.slots.items) l.id ≡ slot_at l.fn.slots.items l.id) × (take l.i l.slots.items ++ left_without l.id (drop l.i l.slots.items) ≡ left_without l.id l.fn.slots.items)
