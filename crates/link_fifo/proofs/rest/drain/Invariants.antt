use Rattle.std.proofs.Common.{◌≡◌, ◌++◌, length, flat_map, All}
use Rattle.wire_frame.specs.Stream.{framed_item, IsItem}
use Rattle.link_fifo.proofs.rest.drain.Given as goal

abbrev pub invariant-loop-item : goal.invariant-loop-item
invariant-loop-item l = (flat_map framed_item l.items ++ l.cutter.held ≡ l.fn.cutter.held) × All IsItem l.items

abbrev pub decreases-loop-item : goal.decreases-loop-item
decreases-loop-item l = length l.cutter.held
