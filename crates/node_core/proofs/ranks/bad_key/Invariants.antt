use Rattle.std.proofs.Common.{◌≡◌}
use Rattle.service_machine.specs.Refusing.{bad_key}
use Rattle.node_core.specs.Ranks.{rank_in}
use Rattle.node_core.proofs.ranks.bad_key.Given as goal

-- what is left to walk over
abbrev pub invariant-loop-key : goal.invariant-loop-key
invariant-loop-key l = bad_key (rank_in l.roster) l.sender l.key-iterator ≡ bad_key (rank_in l.roster) l.sender l.keys
