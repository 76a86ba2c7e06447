use Rattle.stamp_match.specs.Kept.{IsMatcherOf}
use Rattle.service_tests.proofs.sequences.run.Given as goal

-- the matcher is that of the slots and the floor
abbrev pub invariant-loop-step : goal.invariant-loop-step
invariant-loop-step g l = IsMatcherOf l.slots l.floor l.matcher
