use Rattle.std.proofs.Common.{◌≡◌}
use Rattle.service_machine.specs.States.{raise}
use Rattle.stamp_clock.proofs.FloorLemmas.{ArePairs}
use Rattle.stamp_clock.proofs.floor.Floor.raise.Given as goal

abbrev pub invariant-loop-key : goal.invariant-loop-key
invariant-loop-key l = ArePairs l.key-iterator × (raise l.self l.key-iterator ≡ raise l.initial.self l.stamps)
