use Rattle.std.proofs.Common.{◌-◌, ◌≡◌, ◌≤◌, ◌++◌, drop}
use Rattle.wire_frame.specs.Stream.{framed_item}
use Rattle.link_fifo.specs.Ring.{ring_sent, SameOut}
use Rattle.link_fifo.specs.Cuts.{cuts_of, Grows}
use Rattle.link_fifo.proofs.push_from.push_from.Given as goal

abbrev pub invariant-loop-at : goal.invariant-loop-at
invariant-loop-at l =
    (ring_sent l.out ++ cuts_of (drop l.at (framed_item l.item)) ≡ ring_sent l.fn.out ++ cuts_of (drop l.from (framed_item l.item))) ×
    (l.from ≤ l.at) ×
    Grows (ring_sent l.fn.out) (ring_sent l.out) ×
    SameOut l.fn.out l.out

abbrev pub decreases-loop-at : goal.decreases-loop-at
decreases-loop-at l = l.len - l.at
