use Rattle.std.proofs.Common.{length}
use Rattle.stamp_clock.specs.Places.{AreKeys}
use Rattle.std.proofs.Common.{ap, ◌∙◌, subst}
use Rattle.stamp_clock.proofs.PlacesLemmas.{length-word, are-keys}
use Rattle.stamp_clock.proofs.keys.KeySet.len.Goals as goal

pub returns-clause-len : goal.returns-clause-len
returns-clause-len c = ap (λ x. x) (length-word c.self.inside.word c.self.invariant) ∙ ap length c.self.view_is

pub returns-clause-keys : goal.returns-clause-keys
returns-clause-keys c = subst (λ keys. AreKeys keys) c.self.view_is (are-keys c.self.inside.word)
