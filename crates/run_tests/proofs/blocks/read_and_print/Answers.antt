use Rattle.std.proofs.Common.{arith}
use Rattle.run_tests.proofs.LineLemmas.{few_lines}
use Rattle.run_tests.proofs.blocks.read_and_print.Goals as goal

pub read_trace-requires-clause-lines : goal.read_trace-requires-clause-lines
read_trace-requires-clause-lines c = omega (arith, few_lines c.as_bytes.result.now, c.as_bytes.ensures.len, c.if-text-gt65536.false)
