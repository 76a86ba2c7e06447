use Rattle.std.proofs.Common.{◌≡◌, ◌*◌, ◌≤◌, ◌^◌, ◌+ℤ◌, drop}
use Rattle.std.specs.Prelude.{unsigned_abs}
use Rattle.svc_expr.specs.Meaning.{numbers_in, total}
use Rattle.svc_expr.proofs.members.summed.Given as goal

abbrev pub invariant-loop-member : goal.invariant-loop-member
invariant-loop-member l =
    (l.sum +ℤ total (numbers_in (drop l.member-index l.members)) ≡ total (numbers_in l.members)) ×
    (unsigned_abs l.sum ≤ l.member-index * 2 ^ 63)
