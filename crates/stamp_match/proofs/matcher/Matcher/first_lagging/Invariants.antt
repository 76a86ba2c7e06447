use Rattle.std.proofs.Common.{◌≡◌, drop}
use Rattle.service_machine.specs.Turning.{lagging}
use Rattle.stamp_match.proofs.matcher.Matcher.first_lagging.Given as goal

-- none of the first heads lags
abbrev pub invariant-loop-place : goal.invariant-loop-place
invariant-loop-place l = lagging l.self.greatest_clocks l.slots ≡ lagging l.self.greatest_clocks (drop l.place l.slots)
