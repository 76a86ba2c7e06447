use Rattle.std.proofs.Common.{◌≡◌, drop}
use Rattle.service_machine.specs.States.{epoch_in}
use Rattle.rewire_core.proofs.pairs.clock_in.Given as goal

abbrev pub invariant-loop-pair : goal.invariant-loop-pair
invariant-loop-pair l = epoch_in (drop l.pair-index l.pairs) l.id ≡ epoch_in l.pairs l.id
