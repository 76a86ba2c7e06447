use Rattle.std.proofs.Common.{◌≡◌, ◌≤◌, length, vec_capacity}
use Rattle.central_eval.proofs.evaluation.no_values.Given as goal

abbrev pub invariant-loop : goal.invariant-loop
invariant-loop l = (length l.values.items ≡ l.counter) × (l.count ≤ vec_capacity l.values)
