use Rattle.std.proofs.Common.{◌≡◌, ◌∙◌, ap, sym, arith, take, drop}
use Rattle.std.proofs.lemmas.List.{length-set}
use Rattle.wire_frame.specs.Stream.{framed_item}
use Rattle.link_fifo.proofs.Fill.{filled_next, filled}
use Rattle.link_fifo.proofs.bytes_at.piece_from_length.Goals as goal

pub loop-i-preserved : goal.loop-i-preserved
loop-i-preserved c = (
  filled_next c.loop-i.bytes (framed_item c.args.item.now) c.args.at c.loop-i.i c.byte_at.result (omega arith) (omega arith) c.byte_at.ensures c.loop-i.invariant.0,
  length-set c.loop-i.bytes c.loop-i.i c.byte_at.result ∙ c.loop-i.invariant.1,
)

pub returns : goal.returns
returns c =
    let all : c.loop-i.i ≡ c.min-count.result = omega arith in
    c.cut.ensures ∙ filled c.loop-i.bytes (framed_item c.args.item.now) c.args.at c.min-count.result (omega arith)
    (ap (λ n. take n c.loop-i.bytes) (sym all) ∙ c.loop-i.invariant.0 ∙ ap (λ n. take n (drop c.args.at (framed_item c.args.item.now))) all)
