use Rattle.std.proofs.Common.{◌≡◌, ◌++◌, drop}
use Rattle.propagation.specs.Stamps.{all_places}
use Rattle.wire_frame.specs.Frames.{pairs}
use Rattle.node_core.proofs.reports.all_places_of.Given as goal

abbrev pub invariant-loop-i : goal.invariant-loop-i
invariant-loop-i l = pairs l.clocks.items ++ all_places l.i (drop l.i l.stamps) ≡ all_places 0 l.stamps
