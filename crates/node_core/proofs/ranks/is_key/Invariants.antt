use Rattle.std.proofs.Common.{◌≡◌}
use Rattle.propagation.specs.Lists.{is_among}
use Rattle.node_core.proofs.ranks.is_key.Given as goal

-- what is left to walk over
abbrev pub invariant-loop-key : goal.invariant-loop-key
invariant-loop-key l = is_among l.key-iterator l.id ≡ is_among l.keys l.id
