use Rattle.std.proofs.Common.{length, ◌∷◌, [], ◌<◌, ◌^◌, ◌++◌, ◌∙◌, ap, arith}
use Rattle.wire_frame.specs.Frames.{u32_bytes}
use Rattle.wire_frame.proofs.Putting.{spelled_next, all_next}
use Rattle.wire_frame.proofs.put.put_clocks.Goals as goal

pub loop-clock-preserved : goal.loop-clock-preserved
loop-clock-preserved c =
    let clocks = c.args.clocks.now in
    let i = c.loop-clock.clock-index in
    let clock = c.clock-item.result in (
      spelled_next u32_bytes (c.args.out.now.items ++ length c.args.clocks.now ∷ []) c.loop-clock.out.items c.put_word.new.out.items clocks i clock c.loop-clock-test.true c.clock-item.is c.loop-clock.invariant.0
          (c.put_word.ensures.items ∙ ap (λ n. c.loop-clock.out.items ++ u32_bytes n) c.clock.view_is),
      all_next (λ k. k < 2 ^ 32) clocks i clock c.loop-clock-test.true c.clock-item.is c.loop-clock.invariant.1 (omega (arith, c.put_word.ensures.fits, c.clock.view_is)),
      omega arith,
    )
