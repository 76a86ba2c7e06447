use Rattle.std.proofs.Common.{◌≡◌, ◌++◌, take}
use Rattle.trace_text.specs.Settled.{settle_line, value_lines}
use Rattle.trace_text.proofs.settled.append_block.Given as goal

abbrev pub invariant-loop-i : goal.invariant-loop-i
invariant-loop-i l = l.out.items ≡ l.fn.out.items ++ (settle_line l.k ++ value_lines (take l.i l.book) (take l.i l.values))
