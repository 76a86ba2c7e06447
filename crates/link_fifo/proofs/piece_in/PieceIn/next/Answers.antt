use Rattle.link_fifo.specs.Ring.{ring_received}
use Rattle.link_fifo.proofs.Streams.{read_next}
use Rattle.link_fifo.proofs.Next.{read_after, place_after}
use Rattle.link_fifo.proofs.piece_in.PieceIn.next.Goals as goal

pub invariant_of-self : goal.invariant_of-self
invariant_of-self c =
    record {
      read = read_after _ c.next.result (ring_received c.args.self.now.into) c.args.self.now.cutter c.next.new.self
          c.next.ensures.item c.next.ensures.size c.next.ensures.none c.next.ensures.err c.args.self.now.read;
      place = place_after _ c.next.result (ring_received c.args.self.now.into) c.args.self.now.cutter c.next.new.self
          c.next.ensures.item c.next.ensures.offset c.next.ensures.none c.next.ensures.err c.args.self.now.read c.args.self.now.place;
    }

pub returns-in-Ok-Some-clause-item : goal.returns-in-Ok-Some-clause-item
returns-in-Ok-Some-clause-item c =
    (read_next (ring_received c.args.self.now.into) c.args.self.now.cutter.held c.next.new.self.held c.in-Ok-Some.item c.args.self.now.read
    (rw c.in-Ok-Some.field-0-is at c.in-Ok-Some.ensures.size) (rw c.in-Ok-Some.field-0-is at c.in-Ok-Some.ensures.item)).1
