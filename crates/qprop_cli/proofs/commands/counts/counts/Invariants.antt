use Rattle.std.proofs.Common.{◌≤◌, ◌≡◌, ◌*◌, take}
use Rattle.qprop_cli.specs.Commands.Check.{service_count, change_count}
use Rattle.qprop_cli.proofs.commands.counts.counts.Given as goal

abbrev pub invariant-loop-leg : goal.invariant-loop-leg
invariant-loop-leg l =
    (l.services ≡ service_count (take l.leg-index l.legs)) ×
    (l.changes ≡ change_count (take l.leg-index l.legs)) ×
    (l.services ≤ 64 * l.leg-index) ×
    (l.changes ≤ 1024 * l.leg-index)
