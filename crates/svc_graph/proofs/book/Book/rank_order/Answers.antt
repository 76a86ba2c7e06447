use Rattle.std.proofs.Common.{◌∙◌, IsPermutation, sym, subst, ap}
use Rattle.std.specs.List.{range_with_len}
use Rattle.std.specs.List.Sorted.{IsNonDecreasingBy}
use Rattle.svc_graph.proofs.Ordered.{services-range, IsInOrder-sorted}
use Rattle.svc_graph.proofs.Rows.{roster_of-book}
use Rattle.svc_graph.specs.Central.{services}
use Rattle.svc_graph.specs.History.{roster_of}
use Rattle.svc_graph.specs.Order.{order_key}
use Rattle.svc_graph.proofs.book.Book.rank_order.Goals as goal
use Rattle.svc_graph.proofs.book.Book.rank_order.Goals.{After-from_vec}

-- the services that were sorted are all
all : (c : After-from_vec) → IsPermutation (services c.args.self.now) c.in_ok-sorted.field-0.items
all c =
    subst (λ ids. IsPermutation ids c.in_ok-sorted.field-0.items) (c.in_ok-ids.ensures ∙ ap (range_with_len 0) c.len.ensures.len ∙ sym (services-range c.args.self.now)) c.in_ok-sorted.ensures.all

pub returns-clause-all : goal.returns-clause-all
returns-clause-all c = rw c.from_vec.ensures (all c)

pub returns-clause-ordered : goal.returns-clause-ordered
returns-clause-ordered c =
    let kinds = c.as_slice.ensures.value ∙ sym (roster_of-book c.self.invariant) ∙ ap roster_of c.self.view_is in
    let sorted = subst (λ ks. IsNonDecreasingBy (order_key ks) c.in_ok-sorted.field-0.items) kinds c.in_ok-sorted.ensures.ordered in
    rw c.from_vec.ensures (IsInOrder-sorted c.args.self.now c.in_ok-sorted.field-0.items c.len.ensures.book.few (all c) sorted)
