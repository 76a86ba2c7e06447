use Rattle.std.proofs.Common.{◌≡◌, ◌-◌, ◌++◌, drop}
use Rattle.wire_frame.specs.Stream.{framed_item}
use Rattle.link_fifo.specs.Kept.{left_of}
use Rattle.link_fifo.proofs.rest.feed_kept.Given as goal

abbrev pub invariant-loop-at : goal.invariant-loop-at
invariant-loop-at l = l.cutter.held ++ drop l.at (framed_item l.item) ≡ l.fn.cutter.held ++ left_of l.fn.kept

abbrev pub decreases-loop-at : goal.decreases-loop-at
decreases-loop-at l = l.len - l.at
