use Rattle.std.proofs.Common.{ℕ, ◌<◌, ◌≤◌}
use Rattle.propagation.specs.History.{now}
use Rattle.propagation.specs.Stamps.{clock_of}
use Rattle.svc_graph.specs.History.{theory}
use Rattle.central_eval.proofs.reaching.are_in_time.Given as goal

abbrev pub invariant-loop-number : goal.invariant-loop-number
invariant-loop-number l = (q : ℕ) → q < l.number → clock_of l.stamps q ≤ now (theory l.book) q
