-- The legs that are left after one more.
use Rattle.std.proofs.Common.{◌≡◌, ◌∙◌, ap, sym, subst, ℕ, ◌+◌, ◌<◌, List, ◌∷◌, length, drop, slice_index_or}
use Rattle.std.proofs.lemmas.List.{drop_more}
use Rattle.svc_graph.specs.History.{Row}
use Rattle.svc_plan.specs.declared.plan.Leg.{Leg}
use Rattle.svc_plan.specs.Rows.{rows_after, IsLegAfter, AreLegsAfter}

module _ (rows : List Row) (legs : List Leg) (i : ℕ) (leg : Leg) (less : i < length legs) (is : leg ≡ slice_index_or legs i leg) (left : AreLegsAfter rows (drop i legs)) where
  both : IsLegAfter rows leg × AreLegsAfter (rows_after rows leg) (drop (i + 1) legs)
  both =
      let split : drop i legs ≡ leg ∷ drop (i + 1) legs = drop_more legs i leg less ∙ ap (λ (x : Leg). x ∷ drop (i + 1) legs) (sym is) in
      subst (λ (ls : List Leg). AreLegsAfter rows ls) split left

  pub next_leg : IsLegAfter rows leg
  next_leg = both.0

  pub left_after : (rows' : List Row) → rows' ≡ rows_after rows leg → AreLegsAfter rows' (drop (i + 1) legs)
  left_after rows' after = subst (λ (r : List Row). AreLegsAfter r (drop (i + 1) legs)) (sym after) both.1
