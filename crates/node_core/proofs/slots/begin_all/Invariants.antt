use Rattle.std.proofs.Common.{◌≡◌, ◌++◌, drop, take}
use Rattle.service_machine.specs.Openings.{first_slots}
use Rattle.node_core.proofs.slots.begin_all.Given as goal

abbrev pub invariant-loop-i : goal.invariant-loop-i
invariant-loop-i l = take l.i l.slots.items ++ first_slots (drop l.i l.slots.items) ≡ first_slots l.fn.slots.items
