use Rattle.std.proofs.Common.{◌≡◌, ◌+◌, length}
use Rattle.service_machine.specs.Turning.{lag}
use Rattle.stamp_clock.proofs.FloorLemmas.{ArePairs}
use Rattle.stamp_match.proofs.walk.first_lag.Given as goal

-- what is left to walk over
abbrev pub invariant-loop-key : goal.invariant-loop-key
invariant-loop-key g l = ArePairs l.key-iterator × (lag l.greatest_clocks l.key-iterator ≡ lag l.greatest_clocks l.stamps) × (l.looks + length l.key-iterator ≡ l.initial.looks + length l.stamps)
