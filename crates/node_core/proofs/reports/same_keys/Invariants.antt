use Rattle.std.proofs.Common.{◌≡◌}
use Rattle.propagation.specs.Stamps.{same_keys}
use Rattle.node_core.proofs.reports.same_keys.Given as goal

-- what is left to walk over
abbrev pub invariant-loop-key : goal.invariant-loop-key
invariant-loop-key l = same_keys l.key-iterator l.others ≡ same_keys l.old l.new
