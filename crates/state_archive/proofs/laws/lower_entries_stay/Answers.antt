use Rattle.state_archive.proofs.LawLemmas.{lower_stays}
use Rattle.state_archive.proofs.laws.lower_entries_stay.Goals as goal

pub returns : goal.returns
returns c = lower_stays
