use Rattle.std.proofs.Common.{subst}
use Rattle.stamp_clock.specs.Beside.{AreStamps}
use Rattle.stamp_clock.proofs.BesideLemmas.{are-stamps}
use Rattle.stamp_clock.proofs.stamps.Stamps.iter.Goals as goal

pub returns-clause-stamps : goal.returns-clause-stamps
returns-clause-stamps c = subst (λ stamps. AreStamps stamps) c.self.view_is (are-stamps c.self.inside.keys c.self.inside.clocks.items c.self.invariant)
