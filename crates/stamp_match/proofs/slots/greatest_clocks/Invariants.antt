use Rattle.std.proofs.Common.{◌≡◌, ◌+◌, drop}
use Rattle.service_machine.specs.States.{raise_all}
use Rattle.service_machine.specs.Turning.{heads, greatest_clocks}
use Rattle.stamp_match.specs.Looks.{head_keys}
use Rattle.stamp_match.proofs.slots.greatest_clocks.Given as goal

abbrev pub invariant-loop-place : goal.invariant-loop-place
invariant-loop-place g l =
    (raise_all l.greatest_clocks (heads (drop l.place l.slots)) ≡ greatest_clocks l.slots l.floor) × (l.looks + head_keys (drop l.place l.slots) ≡ l.initial.looks + head_keys l.slots)
