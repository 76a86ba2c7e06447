use Rattle.std.proofs.Common.{◌∙◌, ap, sym, subst, []}
use Rattle.link_fifo.specs.Cuts.{IsSent, sent_items}
use Rattle.link_fifo.proofs.Streams.{sent_none}
use Rattle.link_fifo.proofs.piece_out.PieceOut.new.Goals as goal

pub invariant_of-result : goal.invariant_of-result
invariant_of-result c = record { sent = subst (λ xs. IsSent xs []) (sym c.requires) sent_none.0 }

pub returns-clause-sent : goal.returns-clause-sent
returns-clause-sent c = ap (λ xs. sent_items xs []) c.requires ∙ sent_none.1
