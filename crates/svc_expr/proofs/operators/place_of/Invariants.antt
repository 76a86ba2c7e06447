use Rattle.std.proofs.Common.{◌≡◌, ◌+◌, drop}
use Rattle.svc_expr.specs.Grammar.{name_index}
use Rattle.svc_expr.proofs.operators.place_of.Given as goal

abbrev pub invariant-loop-place : goal.invariant-loop-place
invariant-loop-place l = l.place + name_index (drop l.place l.names) l.name ≡ name_index l.names l.name
