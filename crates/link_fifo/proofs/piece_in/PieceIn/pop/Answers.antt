use Rattle.std.proofs.Common.{◌∙◌, ◌++◌}
use Rattle.link_fifo.specs.Ring.{ring_received}
use Rattle.link_fifo.proofs.Streams.{read_fed}
use Rattle.link_fifo.proofs.Grown.{place_fed}
use Rattle.link_fifo.proofs.piece_in.PieceIn.pop.Goals as goal

pub invariant_of-self-in-Some : goal.invariant_of-self-in-Some
invariant_of-self-in-Some c =
    record {
      read = (read_fed (ring_received c.args.self.now.into) (ring_received c.pop.new.self) c.args.self.now.cutter.held c.feed.new.self.held c.in-Some.piece
          c.args.self.now.read c.in-Some.ensures.taken
          (c.feed.ensures.held ∙ (λ i. c.reserve.ensures.held i ++ c.as_slice.ensures.bytes i))).0;
      place = place_fed (ring_received c.args.self.now.into) (ring_received c.pop.new.self) c.args.self.now.cutter.held c.feed.new.self.held c.in-Some.piece
          c.args.self.now.cutter.offset c.feed.new.self.offset c.args.self.now.read c.in-Some.ensures.taken
          (c.feed.ensures.held ∙ (λ i. c.reserve.ensures.held i ++ c.as_slice.ensures.bytes i)) c.args.self.now.place (c.feed.ensures.offset ∙ c.reserve.ensures.offset);
    }

pub returns-in-Some-clause-received : goal.returns-in-Some-clause-received
returns-in-Some-clause-received c =
    (read_fed (ring_received c.args.self.now.into) (ring_received c.pop.new.self) c.args.self.now.cutter.held c.feed.new.self.held c.in-Some.piece
    c.args.self.now.read c.in-Some.ensures.taken
    (c.feed.ensures.held ∙ (λ i. c.reserve.ensures.held i ++ c.as_slice.ensures.bytes i))).1
