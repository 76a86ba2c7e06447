use Rattle.std.proofs.Common.{◌≡◌, ◌++◌, drop, take}
use Rattle.service_machine.specs.States.{with_clock}
use Rattle.rewire_core.proofs.pairs.put_clock.Given as goal

abbrev pub invariant-loop-i : goal.invariant-loop-i
invariant-loop-i l = take l.i l.pairs.items ++ with_clock l.id l.clock (drop l.i l.pairs.items) ≡ with_clock l.id l.clock l.fn.pairs.items
