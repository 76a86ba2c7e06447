use Rattle.std.proofs.Common.{◌≡◌, ◌≤◌, ◌+◌, ◌++◌, map, take, length, vec_len, vec_capacity}
use Rattle.central_eval.specs.Values.{value_at}
use Rattle.central_eval.proofs.evaluation.gather.Given as goal

abbrev pub invariant-loop-id : goal.invariant-loop-id
invariant-loop-id l =
    (l.given.items ≡ l.fn.given.items ++ map (value_at l.values) (take l.id-index l.ids)) ×
    (vec_len l.given + length l.ids ≤ vec_capacity l.given + l.id-index)
