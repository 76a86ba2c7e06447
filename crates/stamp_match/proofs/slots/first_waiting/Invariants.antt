use Rattle.std.proofs.Common.{◌≡◌, drop}
use Rattle.service_machine.specs.Turning.{waiting}
use Rattle.stamp_match.proofs.slots.first_waiting.Given as goal

abbrev pub invariant-loop-place : goal.invariant-loop-place
invariant-loop-place l = waiting l.slots ≡ waiting (drop l.place l.slots)
