use Rattle.std.proofs.Common.{◌≡◌, false, filter, get_or}
use Rattle.std.specs.List.{range_with_len}
use Rattle.svc_graph.proofs.book.reach.marked_services.Given as goal

abbrev pub invariant-loop-number : goal.invariant-loop-number
invariant-loop-number l = l.ids.items ≡ filter (λ p. get_or l.marks p false) (range_with_len 0 l.number)
