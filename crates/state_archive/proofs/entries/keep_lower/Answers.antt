use Rattle.std.proofs.Common.{ℕ, List, nat_lt, rules}
use Rattle.std.proofs.lemmas.Fn.{filter_same}
use Rattle.state_archive.proofs.entries.keep_lower.Goals as goal

pub returns-clause-lower : goal.returns-clause-lower
returns-clause-lower c = filter_same _ (λ (entry : ℕ × List ℕ). nat_lt entry.0 c.args.leg) _ (λ x b q h. (search (rules, h), search (rules, h))) _ _ c.retain.ensures.filtered
