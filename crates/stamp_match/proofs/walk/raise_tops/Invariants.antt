use Rattle.std.proofs.Common.{◌≡◌, ◌+◌, length}
use Rattle.service_machine.specs.States.{raise}
use Rattle.stamp_clock.proofs.FloorLemmas.{ArePairs}
use Rattle.stamp_match.proofs.walk.raise_tops.Given as goal

-- what is left to walk over
abbrev pub invariant-loop-key : goal.invariant-loop-key
invariant-loop-key g l = ArePairs l.key-iterator × (raise l.greatest_clocks l.key-iterator ≡ raise l.initial.greatest_clocks l.stamps) × (l.looks + length l.key-iterator ≡ l.initial.looks + length l.stamps)
