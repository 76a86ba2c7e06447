use Rattle.std.proofs.Common.{◌≡◌, ◌+◌, ◌++◌, ◌∷◌, [], ℕ, List, Option, None, length, slice_index_or, subst, sym, ap, arith, length-append}
use Rattle.settle_core.proofs.PartLemmas.{none_more}
use Rattle.settle_core.proofs.parting.nothing.Goals as goal

pub loop-preserved : goal.loop-preserved
loop-preserved g c = (
  (let more : length c.push.new.self.items ≡ length (c.loop.all.items ++ None ∷ []) = ap (λ (xs : List (Option g.row.T.Denot)). length xs) c.in_ok-push.ensures.items in
      let one : length (c.loop.all.items ++ None ∷ []) ≡ length c.loop.all.items + 1 = length-append c.loop.all.items (None ∷ []) in
      let was : length c.loop.all.items ≡ c.loop.counter = c.loop.invariant.0 in omega (arith, more, one, was)),
  (let P : List (Option g.row.T.Denot) → Type 0 = λ xs. (q : ℕ) → slice_index_or xs q None ≡ None in subst P (sym c.in_ok-push.ensures.items) (none_more c.loop.all.items c.loop.invariant.1)),
)
