use Rattle.std.proofs.Common.{◌≤◌, ◌≡◌, take, []}
use Rattle.svc_plan.specs.Rows.{rows_after_all, EachBorn}
use Rattle.trace_text.specs.Settled.{Settles}
use Rattle.qprop_cli.specs.Inside.Blocks.{AddsText}
use Rattle.qprop_cli.proofs.commands.central.legs.evaluate_legs.Given as goal

abbrev pub invariant-loop-i : goal.invariant-loop-i
invariant-loop-i g l =
    (g.K.Sink.faults l.fn.sink ≤ g.K.Sink.faults l.sink) ×
    (l.book ≡ rows_after_all [] (take l.i l.legs)) ×
    EachBorn l.book ×
    AddsText (Settles 0 []) (g.K.Sink.held l.fn.sink) (g.K.Sink.held l.sink) (take l.i l.legs)
