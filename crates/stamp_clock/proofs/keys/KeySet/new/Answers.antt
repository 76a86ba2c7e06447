use Rattle.stamp_clock.proofs.PlacesLemmas.{no-places}
use Rattle.stamp_clock.proofs.keys.KeySet.new.Goals as goal

pub returns : goal.returns
returns c = no-places
