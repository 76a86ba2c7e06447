use Rattle.std.proofs.Common.{length, ◌∷◌, [], ◌<◌, ◌^◌, ◌++◌, ◌∙◌, ap, arith}
use Rattle.wire_frame.specs.Frames.{u16_bytes}
use Rattle.wire_frame.proofs.Putting.{spelled_next, all_next}
use Rattle.wire_frame.proofs.put.put_keys.Goals as goal

pub loop-key-preserved : goal.loop-key-preserved
loop-key-preserved c =
    let keys = c.args.keys.now in
    let i = c.loop-key.key-index in
    let key = c.key-item.result in (
      spelled_next u16_bytes (c.args.out.now.items ++ length c.args.keys.now ∷ []) c.loop-key.out.items c.put_half.new.out.items keys i key c.loop-key-test.true c.key-item.is c.loop-key.invariant.0
          (c.put_half.ensures.items ∙ ap (λ n. c.loop-key.out.items ++ u16_bytes n) c.key.view_is),
      all_next (λ k. k < 2 ^ 16) keys i key c.loop-key-test.true c.key-item.is c.loop-key.invariant.1 (omega (arith, c.put_half.ensures.fits, c.key.view_is)),
      omega arith,
    )
