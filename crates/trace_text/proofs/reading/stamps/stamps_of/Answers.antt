use Rattle.trace_text.proofs.StampReading.{made}
use Rattle.trace_text.proofs.reading.stamps.stamps_of.Goals as goal

pub returns : goal.returns
returns c = made c.args.list c.as_slice-pairs.result.now _ c.as_slice-pairs.ensures c.if-not-are_rising.ensures c.in_ok-stamps.ensures
