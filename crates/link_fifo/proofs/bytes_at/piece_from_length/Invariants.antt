use Rattle.std.proofs.Common.{◌≡◌, length, take, drop}
use Rattle.wire_frame.specs.Stream.{framed_item}
use Rattle.link_fifo.proofs.bytes_at.piece_from_length.Given as goal

abbrev pub invariant-loop-i : goal.invariant-loop-i
invariant-loop-i l = (take l.i l.bytes ≡ take l.i (drop l.at (framed_item l.item))) × (length l.bytes ≡ 64)
