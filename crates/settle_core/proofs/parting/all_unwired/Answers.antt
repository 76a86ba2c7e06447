use Rattle.std.proofs.Common.{List, [], ◌∷◌, ◌++◌, sym, subst}
use Rattle.settle_core.specs.Inside.Parting.{AreUnwired}
use Rattle.settle_core.specs.declared.wired.WiredNode.{WiredNode}
use Rattle.settle_core.proofs.PartLemmas.{unwired_more}
use Rattle.settle_core.proofs.parting.all_unwired.Goals as goal

pub loop-node-preserved : goal.loop-node-preserved
loop-node-preserved c =
    subst (λ (xs : List WiredNode). AreUnwired (c.loop-node.yielded ++ c.in-Some.node ∷ []) xs) (sym c.in_ok-push.ensures.items) (unwired_more c.loop-node.yielded c.in-Some.node c.loop-node.all.items c.in_ok-unwired.field-0 c.loop-node.invariant c.in_ok-unwired.ensures)
