use Rattle.state_archive.proofs.LawLemmas.{greatest_last}
use Rattle.state_archive.proofs.laws.greatest_is_last.Goals as goal

pub returns : goal.returns
returns c = greatest_last
