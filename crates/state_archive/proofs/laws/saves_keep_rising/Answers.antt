use Rattle.state_archive.proofs.EntryLemmas.{rising_kept}
use Rattle.state_archive.proofs.laws.saves_keep_rising.Goals as goal

pub returns : goal.returns
returns c = rising_kept
