use Rattle.std.proofs.Common.{take}
use Rattle.node_core.specs.Outgoing.{Says, each_told, value_frames}
use Rattle.node_core.proofs.telling.outgoing_values.Given as goal

abbrev pub invariant-loop-i : goal.invariant-loop-i
invariant-loop-i l = Says l.outgoing (each_told (take l.i l.readers) (value_frames (record { epoch = 1; value = l.fn.value; clocks = l.clocks })))
