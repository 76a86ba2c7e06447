use Rattle.std.proofs.Common.{◌≡◌, ◌+◌, ◌++◌, ℕ, List, length}
use Rattle.rtrb.specs.Ring.{received, known_items}
use Rattle.link_fifo.specs.Ring.{ring_sent, ring_received}
use Rattle.link_fifo.specs.Cuts.{bytes_of_pieces}
use Rattle.link_fifo.proofs.ring.RingOut.pour_into.Given as goal

abbrev pub invariant-loop : goal.invariant-loop
invariant-loop l =
    (l.counter + length (known_items l.consumer) ≡ l.count) ×
    (received l.consumer ++ known_items l.consumer ≡ ring_sent l.fn.self) ×
    ((lead : List ℕ) → bytes_of_pieces (ring_received l.fn.into) ≡ lead ++ l.fn.cutter.held → bytes_of_pieces (received l.consumer) ≡ lead ++ l.cutter.held)
