use Rattle.state_archive.proofs.LawLemmas.{each_found}
use Rattle.state_archive.proofs.laws.entries_are_found.Goals as goal

pub returns : goal.returns
returns c = each_found
