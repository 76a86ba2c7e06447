use Rattle.std.proofs.Common.{◌≡◌, ◌++◌, drop}
use Rattle.propagation.specs.Stamps.{changed_places}
use Rattle.wire_frame.specs.Frames.{pairs}
use Rattle.node_core.proofs.reports.changes_of.Given as goal

abbrev pub invariant-loop-i : goal.invariant-loop-i
invariant-loop-i l = pairs l.clocks.items ++ changed_places l.i (drop l.i l.old) (drop l.i l.new) ≡ changed_places 0 l.old l.new
