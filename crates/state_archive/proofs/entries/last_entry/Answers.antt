use Rattle.std.proofs.Common.{ℕ, List, option_map, ap, ◌∙◌}
use Rattle.state_archive.proofs.EntryLemmas.{last_at}
use Rattle.state_archive.proofs.entries.last_entry.Goals as goal

pub returns : goal.returns
returns c = ap (option_map (λ (entry : ℕ × List ℕ). entry.1)) c.last.ensures.value ∙ last_at c.args.entries.now
