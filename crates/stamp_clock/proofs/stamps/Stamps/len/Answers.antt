use Rattle.std.proofs.Common.{sym, ap, subst, ◌∙◌, length}
use Rattle.stamp_clock.specs.Beside.{AreStamps}
use Rattle.stamp_clock.proofs.BesideLemmas.{are-stamps, length-beside}
use Rattle.stamp_clock.proofs.stamps.Stamps.len.Goals as goal

pub returns-clause-len : goal.returns-clause-len
returns-clause-len c = c.len.ensures ∙ c.self.inside.clocks.ok.0 ∙ sym c.self.invariant.lengths ∙ sym (length-beside c.self.inside.keys c.self.inside.clocks.items c.self.invariant.lengths) ∙ ap length c.self.view_is

pub returns-clause-stamps : goal.returns-clause-stamps
returns-clause-stamps c = subst (λ stamps. AreStamps stamps) c.self.view_is (are-stamps c.self.inside.keys c.self.inside.clocks.items c.self.invariant)
