use Rattle.std.proofs.Common.{arith}
use Rattle.wire_frame.proofs.Rising.{places_fit}
use Rattle.wire_frame.proofs.write.write_value.Goals as goal

pub put_delta-written-requires : goal.put_delta-written-requires
put_delta-written-requires c = omega (arith, places_fit 0 c.args.clocks.now (omega arith) c.requires.rise c.requires.below)
