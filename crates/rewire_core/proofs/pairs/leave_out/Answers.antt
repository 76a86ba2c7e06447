use Rattle.std.proofs.Common.{ℕ, ◌==◌, not, rules}
use Rattle.std.proofs.lemmas.Fn.{filter_same}
use Rattle.rewire_core.proofs.pairs.leave_out.Goals as goal

pub returns : goal.returns
returns c = filter_same _ (λ (pair : ℕ × ℕ). not (pair.0 == c.args.id)) _ (λ x b q h. (search (rules, h), search (rules, h))) _ _ c.retain.ensures.filtered
