use Rattle.std.proofs.Common.{◌≡◌, ℕ, [], Option, sym, subst, ◌∙◌}
use Rattle.std.specs.Iterator.{YieldsFirst}
use Rattle.stamp_clock.proofs.BesideLemmas.{beside-none}
use Rattle.stamp_clock.proofs.pairs.PairsIterator.next.Goals as goal

pub returns-in_err-clock-clause-steps : goal.returns-in_err-clock-clause-steps
returns-in_err-clock-clause-steps c =
    let none : c.args.self.now ≡ [] = sym c.self.view_is ∙ beside-none c.self.inside.keys c.self.inside.clocks.now c.in_err-clock.ensures.cases in
    subst (λ (r : Option (ℕ × ℕ)). YieldsFirst {A = ℕ × ℕ} (λ pairs. pairs) c.args.self.now r c.args.self.now) (sym c.from_residual.ensures) (none, none)
