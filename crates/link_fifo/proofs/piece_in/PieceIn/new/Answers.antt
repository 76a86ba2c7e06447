use Rattle.std.proofs.Common.{◌∙◌, ap, sym, subst, []}
use Rattle.link_fifo.specs.Ring.{ring_received}
use Rattle.link_fifo.specs.Cuts.{IsRead, received_items}
use Rattle.link_fifo.proofs.Streams.{read_none}
use Rattle.link_fifo.proofs.Grown.{place_none}
use Rattle.link_fifo.proofs.piece_in.PieceIn.new.Goals as goal

pub invariant_of-result : goal.invariant_of-result
invariant_of-result c = record {
  read = subst (λ xs. IsRead xs c.new.result.held) (sym c.requires) (subst (λ b. IsRead [] b) (sym c.new.ensures.held) read_none.0);
  place = c.new.ensures.offset ∙ sym (place_none (ring_received c.args.into) c.new.result.held c.requires);
}

pub returns-clause-received : goal.returns-clause-received
returns-clause-received c = ap (λ xs. received_items xs c.new.result.held) c.requires ∙ ap (λ b. received_items [] b) c.new.ensures.held ∙ read_none.1
