use Rattle.std.proofs.Common.{◌≡◌, ◌-◌, length}
use Rattle.wire_frame.specs.Stream.{IsTooLong}
use Rattle.link_fifo.specs.Ring.{ring_received}
use Rattle.link_fifo.specs.Cuts.{Grows}
use Rattle.link_fifo.specs.Ends.{items_received, held_bytes, SameReader}
use Rattle.link_fifo.proofs.piece_in.PieceIn.pop_item.Given as goal

abbrev pub invariant-loop-item : goal.invariant-loop-item
invariant-loop-item l =
    (items_received l.self ≡ items_received l.fn.self) ×
    (IsTooLong (held_bytes l.fn.self) → l.self.cutter ≡ l.fn.self.cutter) ×
    Grows (ring_received l.fn.self.into) (ring_received l.self.into) ×
    SameReader l.fn.self l.self

abbrev pub decreases-loop-item : goal.decreases-loop-item
decreases-loop-item l = 588 - length (held_bytes l.self)
