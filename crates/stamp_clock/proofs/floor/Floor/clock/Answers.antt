use Rattle.std.proofs.Common.{ℕ, ◌<◌, subst, sym, ap₂, ◌∙◌}
use Rattle.propagation.specs.Stamps.{Stamps, clock_of}
use Rattle.stamp_clock.proofs.FloorLemmas.{floor-clock}
use Rattle.stamp_clock.proofs.floor.Floor.clock.Goals as goal

pub returns : goal.returns
returns c =
    sym (floor-clock c.self.inside.clocks c.id.inside.0 c.index-self-id.result (subst (λ n. c.id.inside.0 < n) (sym c.self.told) (subst (λ (key : ℕ). key < 64) (sym c.id.view_is) c.requires)))
    ∙ ap₂ (λ (S : Stamps) (key : ℕ). clock_of S key) c.self.view_is c.id.view_is
