use Rattle.state_archive.proofs.LawLemmas.{higher_gone}
use Rattle.state_archive.proofs.laws.higher_entries_go.Goals as goal

pub returns : goal.returns
returns c = higher_gone
