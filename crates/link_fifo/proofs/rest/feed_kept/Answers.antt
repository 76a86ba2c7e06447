use Rattle.std.proofs.Common.{◌∙◌, ◌++◌}
use Rattle.wire_frame.specs.Stream.{framed_item}
use Rattle.link_fifo.specs.Kept.{left_of}
use Rattle.link_fifo.proofs.Whole.{fed_next}
use Rattle.link_fifo.proofs.rest.feed_kept.Goals as goal

pub loop-at-preserved : goal.loop-at-preserved
loop-at-preserved c =
    fed_next c.loop-at.cutter.held c.feed.new.self.held (framed_item c.as_slice-item.result.now) (c.args.cutter.now.held ++ left_of c.args.kept.now) c.loop-at.at
    (c.feed.ensures.held ∙ (λ i. c.reserve.ensures.held i ++ (c.as_slice.ensures.bytes ∙ c.piece_at-piece.ensures) i)) c.loop-at.invariant
