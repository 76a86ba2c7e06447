use Rattle.std.proofs.Common.{◌≡◌, ℕ, ◌<◌, max, get_or, subst, sym, ap, ap₂, ◌∙◌, rules}
use Rattle.propagation.specs.Stamps.{Stamps}
use Rattle.std.proofs.lemmas.Grind.{get_or_default_zero}
use Rattle.service_machine.specs.States.{raise_one}
use Rattle.stamp_clock.proofs.FloorLemmas.{raised_clocks-set}
use Rattle.stamp_clock.proofs.floor.Floor.raise_one.Goals as goal

pub returns : goal.returns
returns c =
    let clocks = c.self.inside.clocks in
    let key = c.id.inside.0 in
    let within = subst (λ n. key < n) (sym c.self.invariant) (subst (λ (k : ℕ). k < 64) (sym c.id.view_is) c.requires.below) in
    let greater : c.max.result ≡ max (get_or clocks key c.index-self-place.result) c.args.clock = search rules in
    raised_clocks-set clocks key c.args.clock c.max.result within c.requires.positive (greater ∙ ap (λ n. max n c.args.clock) (get_or_default_zero clocks key c.index-self-place.result within))
    ∙ ap₂ (λ (F : Stamps) (k : ℕ). raise_one F k c.args.clock) c.self.view_is c.id.view_is
