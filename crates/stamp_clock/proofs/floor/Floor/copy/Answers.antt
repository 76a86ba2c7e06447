use Rattle.std.proofs.Common.{subst}
use Rattle.stamp_clock.specs.Beside.{AreStamps}
use Rattle.stamp_clock.proofs.FloorLemmas.{raised_clocks-stamps}
use Rattle.stamp_clock.proofs.floor.Floor.copy.Goals as goal

pub returns-clause-stamps : goal.returns-clause-stamps
returns-clause-stamps c = subst (λ stamps. AreStamps stamps) c.self.view_is (raised_clocks-stamps c.self.inside.clocks c.self.invariant)
