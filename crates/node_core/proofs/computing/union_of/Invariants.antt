use Rattle.std.proofs.Common.{◌≡◌, drop, [], ◌∷◌}
use Rattle.service_machine.specs.States.{raise_all}
use Rattle.service_machine.specs.Turning.{heads}
use Rattle.node_core.proofs.computing.union_of.Given as goal

abbrev pub invariant-loop-i : goal.invariant-loop-i
invariant-loop-i l = raise_all l.stamps (heads (drop l.i l.slots)) ≡ raise_all ((l.fn.id, l.fn.own) ∷ []) (heads l.slots)
