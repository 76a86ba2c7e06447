use Rattle.std.proofs.Common.{◌∙◌, ◌++◌, ◌∷◌, [], ap, sym, arith}
use Rattle.svc_graph.proofs.Lists.{range_with_len-more}
use Rattle.svc_graph.proofs.book.order.first_services.Goals as goal

pub loop-number-preserved : goal.loop-number-preserved
loop-number-preserved c = (
  c.push_reserved.ensures.items ∙ ap (λ ids. ids ++ c.loop-number.number ∷ []) c.loop-number.invariant.0 ∙ sym (range_with_len-more c.loop-number.number),
  omega (arith, c.push_reserved.ensures.len, c.loop-number.invariant.1),
  omega (arith, c.push_reserved.ensures.capacity, c.loop-number.invariant.2),
)
