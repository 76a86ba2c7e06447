use Rattle.std.proofs.Common.{◌≡◌, ◌*◌, ◌≤◌, ◌^◌, ◌+ℤ◌, drop}
use Rattle.std.specs.Prelude.{unsigned_abs}
use Rattle.svc_expr.specs.Meaning.{numbers_in, total}
use Rattle.qprop_cli.proofs.commands.load.summary.exact_sum.Given as goal

abbrev pub invariant-loop-value : goal.invariant-loop-value
invariant-loop-value l =
    (l.sum +ℤ total (numbers_in (drop l.value-index l.values)) ≡ total (numbers_in l.values)) ×
    (unsigned_abs l.sum ≤ l.value-index * 2 ^ 63)
