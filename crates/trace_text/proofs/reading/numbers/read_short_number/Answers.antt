use Rattle.std.proofs.Common.{arith}
use Rattle.trace_text.proofs.Numbers.{too_great}
use Rattle.trace_text.proofs.reading.numbers.read_short_number.Goals as goal

pub returns-then-number-from : goal.returns-then-number-from
returns-then-number-from c = too_great c.args.digits.now c.in-Some.number c.in-Some.ensures (omega arith)
