use Rattle.std.proofs.Common.{◌≡◌, ◌++◌, drop, map}
use Rattle.service_machine.specs.Turning.{heads}
use Rattle.node_core.proofs.computing.values_of.Given as goal

abbrev pub invariant-loop-i : goal.invariant-loop-i
invariant-loop-i l = l.values.items ++ map (λ head. head.value) (heads (drop l.i l.slots)) ≡ map (λ head. head.value) (heads l.slots)
