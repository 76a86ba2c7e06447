use Rattle.std.proofs.Common.{◌≤◌, length}
use Rattle.link_fifo.proofs.threads.push_one.Given as goal

abbrev pub invariant-loop : goal.invariant-loop
invariant-loop l = length l.item ≤ 585
