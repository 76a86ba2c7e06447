use Rattle.std.proofs.Common.{◌≤◌, take}
use Rattle.qprop_cli.specs.Inside.Blocks.{AddsTraced}
use Rattle.qprop_cli.proofs.commands.settling.legs.settle_legs.Given as goal

abbrev pub invariant-loop-i : goal.invariant-loop-i
invariant-loop-i g l =
    (g.K.Sink.faults l.fn.sink ≤ g.K.Sink.faults l.sink) ×
    AddsTraced l.flags (g.K.Sink.held l.fn.sink) (g.K.Sink.held l.sink) (take l.i l.legs) l.network
