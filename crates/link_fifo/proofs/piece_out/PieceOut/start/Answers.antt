use Rattle.std.proofs.Common.{◌∙◌, ap, sym, subst, ◌++◌, ◌∷◌, []}
use Rattle.link_fifo.specs.Ring.{ring_sent}
use Rattle.link_fifo.specs.Cuts.{IsSent, sent_items, cuts_of}
use Rattle.link_fifo.specs.Kept.{left_of}
use Rattle.link_fifo.proofs.Streams.{sent_more}
use Rattle.link_fifo.proofs.piece_out.PieceOut.start.Goals as goal

pub invariant_of-self : goal.invariant_of-self
invariant_of-self c =
    let was = subst (λ b. IsSent (ring_sent c.args.self.now.out) b) c.requires.none c.args.self.now.sent in
    record {
      sent = (sent_more (ring_sent c.args.self.now.out) (ring_sent c.push_into.new.out) (left_of c.push_into.new.self) c.args.item c.requires.fits was
          (c.push_into.ensures.sent ∙ ap (λ b. ring_sent c.args.self.now.out ++ cuts_of b) c.whole-rest.ensures.left)).0;
    }

pub returns-clause-appended : goal.returns-clause-appended
returns-clause-appended c =
    let was = subst (λ b. IsSent (ring_sent c.args.self.now.out) b) c.requires.none c.args.self.now.sent in
    (sent_more (ring_sent c.args.self.now.out) (ring_sent c.push_into.new.out) (left_of c.push_into.new.self) c.args.item c.requires.fits was
    (c.push_into.ensures.sent ∙ ap (λ b. ring_sent c.args.self.now.out ++ cuts_of b) c.whole-rest.ensures.left)).1
    ∙ ap (λ b. sent_items (ring_sent c.args.self.now.out) b ++ c.args.item ∷ []) (sym c.requires.none)
