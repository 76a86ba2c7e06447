use Rattle.svc_graph.proofs.Reached.{Marked}
use Rattle.svc_graph.proofs.book.Book.closure.Given as goal

abbrev pub invariant-loop-step : goal.invariant-loop-step
invariant-loop-step l = Marked l.self l.order l.fn.id l.step l.marks
