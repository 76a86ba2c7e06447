use Rattle.std.proofs.Common.{◌∙◌, ap, sym, subst}
use Rattle.link_fifo.specs.Ring.{ring_sent}
use Rattle.link_fifo.specs.Cuts.{IsSent, sent_items}
use Rattle.link_fifo.specs.Kept.{left_of, bytes_kept}
use Rattle.link_fifo.proofs.Streams.{sent_step}
use Rattle.link_fifo.proofs.piece_out.PieceOut.flush.Goals as goal

pub invariant_of-self-in-Some : goal.invariant_of-self-in-Some
invariant_of-self-in-Some c =
    let was = subst (λ k. IsSent (ring_sent c.args.self.now.out) (bytes_kept k)) c.in-Some.is c.args.self.now.sent in
    record { sent = (sent_step (ring_sent c.args.self.now.out) (ring_sent c.push_into.new.out) (left_of c.in-Some.rest) (left_of c.push_into.new.self) was c.push_into.ensures.sent).0 }

pub returns-in-Some-clause-sent : goal.returns-in-Some-clause-sent
returns-in-Some-clause-sent c =
    let was = subst (λ k. IsSent (ring_sent c.args.self.now.out) (bytes_kept k)) c.in-Some.is c.args.self.now.sent in
    (sent_step (ring_sent c.args.self.now.out) (ring_sent c.push_into.new.out) (left_of c.in-Some.rest) (left_of c.push_into.new.self) was c.push_into.ensures.sent).1
    ∙ ap (λ k. sent_items (ring_sent c.args.self.now.out) (bytes_kept k)) (sym c.in-Some.is)
