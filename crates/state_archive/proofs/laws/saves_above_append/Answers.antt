use Rattle.state_archive.proofs.LawLemmas.{above_appends}
use Rattle.state_archive.proofs.laws.saves_above_append.Goals as goal

pub returns : goal.returns
returns c = above_appends
