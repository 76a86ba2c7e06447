use Rattle.std.proofs.Common.{length, ◌∷◌, [], ◌++◌, ◌<◌, ◌^◌, arith}
use Rattle.wire_frame.specs.declared.place_clock.PlaceClock.{PlaceClock}
use Rattle.wire_frame.specs.Frames.{place_clock}
use Rattle.wire_frame.proofs.Putting.{spelled_next, all_next}
use Rattle.wire_frame.proofs.put.put_place_clocks.Goals as goal

pub loop-named-preserved : goal.loop-named-preserved
loop-named-preserved c =
    let clocks = c.args.clocks.now in
    let i = c.loop-named.named-index in
    let named = c.named-item.result in
    let old = c.loop-named.out.items in (
      spelled_next place_clock (c.args.out.now.items ++ length c.args.clocks.now ∷ []) old c.put_place_clock.new.out.items clocks i named c.loop-named-test.true c.named-item.is c.loop-named.invariant.0
          c.put_place_clock.ensures.items,
      all_next (λ (n : PlaceClock). n.clock < 2 ^ 32) clocks i named c.loop-named-test.true c.named-item.is c.loop-named.invariant.1 c.put_place_clock.ensures.fits,
      omega arith,
    )
