use Rattle.std.proofs.Common.{◌≡◌}
use Rattle.svc_graph.proofs.Rewinding.{partly}
use Rattle.svc_graph.proofs.book.rewinding.shorten.Given as goal

abbrev pub invariant-loop-i : goal.invariant-loop-i
invariant-loop-i l = l.histories ≡ partly l.i l.fn.histories l.clocks
