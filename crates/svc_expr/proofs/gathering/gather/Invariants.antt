use Rattle.std.proofs.Common.{◌≡◌, ◌≤◌, [], length, take, drop}
use Rattle.svc_expr.specs.Grammar.{with_names, names_among}
use Rattle.svc_expr.proofs.gathering.gather.Given as goal

abbrev pub invariant-loop-token : goal.invariant-loop-token
invariant-loop-token l =
    (length l.names ≤ 256) ×
    (take 256 (with_names l.names (names_among (drop l.token-index l.tokens))) ≡ take 256 (with_names [] (names_among l.tokens)))
