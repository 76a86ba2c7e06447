use Rattle.std.proofs.Common.{sym}
use Rattle.node_core.proofs.EncodingLemmas.{sources_length}
use Rattle.node_core.proofs.encoding.sources_size.Goals as goal

pub returns : goal.returns
returns c = sym (sources_length c.args.epoch c.args.keys.now)
