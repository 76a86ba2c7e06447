use Rattle.std.proofs.Common.{◌≡◌, ◌++◌, drop}
use Rattle.service_machine.specs.Steps.{picks}
use Rattle.node_core.proofs.computing.picks_of.Given as goal

abbrev pub invariant-loop-i : goal.invariant-loop-i
invariant-loop-i l = l.numbers.items ++ picks (drop l.i l.slots) ≡ picks l.slots
