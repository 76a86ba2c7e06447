use Rattle.std.proofs.Common.{arith}
use Rattle.node_core.proofs.EncodingLemmas.{delta_length}
use Rattle.node_core.proofs.encoding.delta_size.Goals as goal

pub returns : goal.returns
returns c = omega (arith, c.value_size.ensures.size, delta_length c.args.epoch c.args.value.now c.args.clocks.now)
