use Rattle.state_archive.proofs.EntryLemmas.{last_saved}
use Rattle.state_archive.proofs.laws.last_is_saved.Goals as goal

pub returns : goal.returns
returns c = last_saved
