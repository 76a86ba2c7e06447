use Rattle.std.proofs.Common.{◌≡◌, ℕ, ◌||◌, false, take, get_or}
use Rattle.propagation.specs.Lists.{is_among}
use Rattle.central_eval.proofs.reaching.mark_all.Given as goal

abbrev pub invariant-loop-id : goal.invariant-loop-id
invariant-loop-id l = (q : ℕ) → get_or l.marks q false ≡ (get_or l.fn.marks q false || is_among (take l.id-index l.ids) q)
