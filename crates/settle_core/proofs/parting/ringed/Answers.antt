use Rattle.std.proofs.Common.{◌++◌, ◌∷◌, [], ◌∙◌, ℕ, List, Vec, Global, ap, sym}
use Rattle.settle_core.proofs.PeerLemmas.{ringed_next, ringed_past}
use Rattle.settle_core.proofs.parting.ringed.Goals as goal
use Rattle.settle_core.proofs.parting.ringed.Goals.{then-is_some+in_ok-push, else-is_some}

pub loop-number-preserved : goal.loop-number-preserved
loop-number-preserved c =
    let ends = c.args.ends.now in
    let k = c.loop-number.number in
    elim c.if-is_some.branch [
      | then-is_some+in_ok-push w ↦ ap (λ (v : Vec ℕ Global). v.items) w.peers-is ∙ w.in_ok-push.ensures.items ∙ ap (λ (ps : List ℕ). ps ++ k ∷ []) c.loop-number.invariant
          ∙ sym (ringed_next ends k c.index-ends-number.result c.loop-number-test.true c.index-ends-number.is (sym w.if-is_some.ensures))
      | else-is_some w ↦ ap (λ (v : Vec ℕ Global). v.items) w.peers-is ∙ c.loop-number.invariant ∙ sym (ringed_past ends k c.index-ends-number.result c.loop-number-test.true c.index-ends-number.is (sym w.if-is_some.ensures))
    ]
