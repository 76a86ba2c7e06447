use Rattle.std.proofs.Common.{List, ℕ, ◌↔◌, ◌⊎◌, subst, bit_or}
use Rattle.std.proofs.lemmas.Nat.{or_lt}
use Rattle.propagation.specs.Lists.{Has}
use Rattle.stamp_clock.specs.Places.{places}
use Rattle.stamp_clock.proofs.PlacesLemmas.{places-or, are-keys}
use Rattle.stamp_clock.proofs.keys.KeySet.union.Goals as goal

pub invariant_of-result : goal.invariant_of-result
invariant_of-result c = or_lt 64 c.self.inside.word c.other.inside.word c.self.invariant c.other.invariant

pub returns-clause-keys : goal.returns-clause-keys
returns-clause-keys c = are-keys (bit_or c.self.inside.word c.other.inside.word)

pub returns-clause-either : goal.returns-clause-either
returns-clause-either c q =
    subst (λ (keys : List ℕ). Has (places (bit_or c.self.inside.word c.other.inside.word)) q ↔ (Has c.args.self q ⊎ Has keys q)) c.other.view_is
    (subst (λ (keys : List ℕ). Has (places (bit_or c.self.inside.word c.other.inside.word)) q ↔ (Has keys q ⊎ Has (places c.other.inside.word) q)) c.self.view_is
    (places-or c.self.inside.word c.other.inside.word c.self.invariant c.other.invariant q))
