use Rattle.std.proofs.Common.{◌≡◌, ◌≤◌, vec_len, vec_capacity}
use Rattle.std.specs.List.{range_with_len}
use Rattle.svc_graph.proofs.book.order.first_services.Given as goal

abbrev pub invariant-loop-number : goal.invariant-loop-number
invariant-loop-number l = (l.ids.items ≡ range_with_len 0 l.number) × (vec_len l.ids ≡ l.number) × (l.count ≤ vec_capacity l.ids)
