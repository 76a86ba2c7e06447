use Rattle.std.proofs.Common.{ℕ, ◌<◌}
use Rattle.propagation.specs.History.{now}
use Rattle.svc_graph.specs.History.{theory}
use Rattle.network_tests.proofs.comparing.are_born.Given as goal

abbrev pub invariant-loop-number : goal.invariant-loop-number
invariant-loop-number l = (n : ℕ) → n < l.number → 0 < now (theory l.book) n
