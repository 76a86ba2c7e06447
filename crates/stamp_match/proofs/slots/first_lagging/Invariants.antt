use Rattle.std.proofs.Common.{◌≡◌, ◌+◌, ◌≤◌, drop}
use Rattle.service_machine.specs.Turning.{lagging}
use Rattle.stamp_match.specs.Looks.{head_keys}
use Rattle.stamp_match.proofs.slots.first_lagging.Given as goal

abbrev pub invariant-loop-place : goal.invariant-loop-place
invariant-loop-place g l =
    (lagging l.greatest_clocks l.slots ≡ lagging l.greatest_clocks (drop l.place l.slots)) × (l.looks + head_keys (drop l.place l.slots) ≤ l.initial.looks + head_keys l.slots)
