use Rattle.std.proofs.Common.{◌≡◌, drop}
use Rattle.svc_expr.specs.Meaning.{first_fault}
use Rattle.svc_expr.proofs.members.fault_among.Given as goal

abbrev pub invariant-loop-member : goal.invariant-loop-member
invariant-loop-member l = first_fault (drop l.member-index l.members) ≡ first_fault l.members
