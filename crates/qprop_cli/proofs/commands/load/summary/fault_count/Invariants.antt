use Rattle.std.proofs.Common.{◌≡◌, ◌≤◌, ◌+◌, drop}
use Rattle.qprop_cli.specs.Commands.Load.{fault_count}
use Rattle.qprop_cli.proofs.commands.load.summary.fault_count.Given as goal

abbrev pub invariant-loop-value : goal.invariant-loop-value
invariant-loop-value l =
    (l.count + fault_count (drop l.value-index l.values) ≡ fault_count l.values) ×
    (l.count ≤ l.value-index)
