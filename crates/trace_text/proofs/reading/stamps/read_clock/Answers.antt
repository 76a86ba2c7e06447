use Rattle.std.proofs.Common.{arith}
use Rattle.trace_text.proofs.Numbers.{no_clock}
use Rattle.trace_text.proofs.reading.stamps.read_clock.Goals as goal

pub returns-then-number-eq0 : goal.returns-then-number-eq0
returns-then-number-eq0 c = no_clock c.args.digits.now c.in-Some.number c.in-Some.ensures (omega arith)
