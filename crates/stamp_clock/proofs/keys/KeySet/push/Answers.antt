use Rattle.std.proofs.Common.{ℕ, ◌<◌, List, ◌∷◌, [], ◌++◌, sym, ap₂, subst, ◌∙◌}
use Rattle.propagation.specs.Lists.{Has}
use Rattle.stamp_clock.specs.Places.{places}
use Rattle.stamp_clock.proofs.RiseLemmas.{has-all}
use Rattle.stamp_clock.proofs.PlacesLemmas.{places-set, fits-set}
use Rattle.stamp_clock.proofs.keys.KeySet.push.Goals as goal

pub invariant_of-self : goal.invariant_of-self
invariant_of-self c = fits-set c.self.inside.word c.key.inside.0 c.self.invariant (subst (λ (key : ℕ). key < 64) (sym c.key.view_is) c.requires.below)

pub returns : goal.returns
returns c =
    let above : (q : ℕ) → Has (places c.self.inside.word) q → q < c.key.inside.0 =
    λ q h. subst (λ (key : ℕ). q < key) (sym c.key.view_is) (has-all {A = ℕ} (λ before. before < c.args.key) c.args.self.now c.requires.above q (subst (λ (keys : List ℕ). Has keys q) c.self.view_is h)) in
    places-set c.self.inside.word c.key.inside.0 c.self.invariant (subst (λ (key : ℕ). key < 64) (sym c.key.view_is) c.requires.below) above
    ∙ ap₂ (λ (keys : List ℕ) (key : ℕ). keys ++ key ∷ []) c.self.view_is c.key.view_is
