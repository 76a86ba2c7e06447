use Rattle.std.proofs.Common.{◌≡◌, ◌++◌, length}
use Rattle.svc_graph.specs.History.{history_of, present}
use Rattle.node_core.specs.Coming.{coming}
use Rattle.node_tests.proofs.tests.accepting.accept_all.Given as goal

abbrev pub invariant-loop-next : goal.invariant-loop-next
invariant-loop-next l = record {
  len : length l.book ≡ length l.fn.book;
  history : history_of l.book l.id ≡ history_of l.fn.book l.id ++ coming (present (history_of l.fn.book l.id)) l.changes.items;
}
