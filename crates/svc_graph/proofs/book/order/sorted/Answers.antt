use Rattle.std.proofs.Common.{rules}
use Rattle.std.proofs.lemmas.List.Sorted.{IsNonDecreasingBy-from_sort_by_key}
use Rattle.svc_graph.specs.Order.{order_key}
use Rattle.svc_graph.proofs.book.order.sorted.Goals as goal

pub returns-clause-ordered : goal.returns-clause-ordered
returns-clause-ordered c = IsNonDecreasingBy-from_sort_by_key (order_key c.args.kinds.now) _ c.in_ok-sort_by_key.ensures.sorted (λ a r q k. search rules)
