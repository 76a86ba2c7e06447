use Rattle.std.proofs.Common.{◌≡◌}
use Rattle.service_machine.specs.Turning.{lag}
use Rattle.stamp_clock.proofs.FloorLemmas.{ArePairs}
use Rattle.stamp_clock.proofs.floor.Floor.lags.Given as goal

abbrev pub invariant-loop-key : goal.invariant-loop-key
invariant-loop-key l = ArePairs l.key-iterator × (lag l.self l.key-iterator ≡ lag l.self l.stamps)
