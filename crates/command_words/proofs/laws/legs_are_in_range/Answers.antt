use Rattle.command_words.proofs.LegLemmas.{legs_in_range}
use Rattle.command_words.proofs.laws.legs_are_in_range.Goals as goal

pub returns : goal.returns
returns c = legs_in_range
