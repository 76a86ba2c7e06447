use Rattle.std.proofs.Common.{◌≡◌, drop}
use Rattle.svc_expr.specs.Meaning.{first_fault, numbers_in, least}
use Rattle.svc_expr.proofs.MemberLemmas.{least_from}
use Rattle.svc_expr.proofs.members.least_of.Given as goal

abbrev pub invariant-loop-member : goal.invariant-loop-member
invariant-loop-member l =
    (first_fault (drop l.member-index l.members) ≡ first_fault l.members) ×
    (least_from l.found (numbers_in (drop l.member-index l.members)) ≡ least (numbers_in l.members))
