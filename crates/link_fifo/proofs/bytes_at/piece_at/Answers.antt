use Rattle.std.proofs.Common.{◌∙◌, ap, sym, arith, take}
use Rattle.std.proofs.lemmas.List.{take_rest}
use Rattle.link_fifo.proofs.Fill.{drop-framed}
use Rattle.link_fifo.proofs.bytes_at.piece_at.Goals as goal

pub returns : goal.returns
returns c = c.cut.ensures ∙ ap (take 64) (take_rest c.args.item.now _ ∙ sym (drop-framed c.args.item.now c.args.at (omega arith)))
