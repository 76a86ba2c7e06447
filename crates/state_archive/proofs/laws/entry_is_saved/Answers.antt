use Rattle.state_archive.proofs.LawLemmas.{saved_found}
use Rattle.state_archive.proofs.laws.entry_is_saved.Goals as goal

pub returns : goal.returns
returns c = saved_found
