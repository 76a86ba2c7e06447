use Rattle.std.proofs.Common.{◌∙◌, ap, sym, ◌++◌, ◌∷◌, [], length, arith, append_assoc}
use Rattle.rtrb.specs.Ring.{received, known_items}
use Rattle.link_fifo.proofs.Whole.{poured_next}
use Rattle.link_fifo.proofs.ring.RingOut.pour_into.Goals as goal

pub loop-preserved : goal.loop-preserved
loop-preserved c =
    let piece = c.pop_known-piece.result in
    let more = c.pop_known-piece.ensures.received.0 in
    let known = c.pop_known-piece.ensures.received.1 in (
      omega (arith, ap length known),
      (λ i. more i ++ known_items c.pop_known-piece.new.self) ∙ append_assoc (received c.loop.consumer) (piece ∷ []) (known_items c.pop_known-piece.new.self)
          ∙ ap (λ xs. received c.loop.consumer ++ xs) (sym known) ∙ c.loop.invariant.1,
      λ lead h. poured_next (received c.loop.consumer) (received c.pop_known-piece.new.self) c.loop.cutter.held c.feed.new.self.held lead piece more
          (c.feed.ensures.held ∙ (λ i. c.reserve.ensures.held i ++ c.as_slice.ensures.bytes i)) (c.loop.invariant.2 lead h),
    )
