use Rattle.std.proofs.Common.{◌≡◌, ◌++◌}
use Rattle.propagation.specs.Stamps.{keys}
use Rattle.node_core.proofs.reports.keys_of.Given as goal

-- what is left to walk over
abbrev pub invariant-loop-key : goal.invariant-loop-key
invariant-loop-key l = l.ids.items ++ keys l.key-iterator ≡ keys l.stamps
