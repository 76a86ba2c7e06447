use Rattle.std.proofs.Common.{◌≡◌, drop}
use Rattle.service_machine.specs.Turning.{headless}
use Rattle.stamp_match.proofs.slots.first_headless.Given as goal

abbrev pub invariant-loop-place : goal.invariant-loop-place
invariant-loop-place l = headless l.slots ≡ headless (drop l.place l.slots)
