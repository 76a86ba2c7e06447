use Rattle.std.proofs.Common.{◌∙◌, ap, ◌++◌, ◌∷◌, [], drop, arith, rules}
use Rattle.wire_frame.specs.Stream.{framed_item}
use Rattle.link_fifo.specs.Ring.{ring_sent}
use Rattle.link_fifo.specs.Cuts.{cuts_of}
use Rattle.link_fifo.proofs.Cuts.{pushed_next}
use Rattle.link_fifo.proofs.Grown.{grows_push}
use Rattle.link_fifo.proofs.push_from.push_from.Goals as goal

pub loop-at-preserved : goal.loop-at-preserved
loop-at-preserved c = (
  pushed_next (ring_sent c.loop-at.out) (ring_sent c.push.new.self) (ring_sent c.args.out.now ++ cuts_of (drop c.args.from (framed_item c.args.item.now)))
      (framed_item c.args.item.now) c.loop-at.at (omega arith)
      (c.in-Ok.ensures.appended ∙ ap (λ p. ring_sent c.loop-at.out ++ p ∷ []) c.piece_at.ensures) c.loop-at.invariant.0,
  omega arith,
  grows_push (ring_sent c.args.out.now) (ring_sent c.loop-at.out) (ring_sent c.push.new.self) c.piece_at.result c.loop-at.invariant.2 c.in-Ok.ensures.appended,
  search rules,
)
