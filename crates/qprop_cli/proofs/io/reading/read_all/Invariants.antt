use Rattle.std.proofs.Common.{◌≤◌, ◌+◌, ◌-◌, length}
use Rattle.std.specs.Io.KnownBytes.{Consumes}
use Rattle.qprop_cli.proofs.io.reading.read_all.Given as goal

abbrev pub invariant-loop-chunk : goal.invariant-loop-chunk
invariant-loop-chunk g l =
    (g.S.Source.faults l.fn.source ≤ g.S.Source.faults l.source) ×
    (length l.bytes.items ≤ l.most + 1) ×
    Consumes (g.S.Source.left l.fn.source) (g.S.Source.left l.source) l.bytes.items

abbrev pub decreases-loop-chunk : goal.decreases-loop-chunk
decreases-loop-chunk g l = l.most + 1 - length l.bytes.items
