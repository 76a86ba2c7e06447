use Rattle.std.proofs.Common.{refl, arith}
use Rattle.std.proofs.lemmas.Bool.Decides.{nat_tests}
use Rattle.svc_value.proofs.ValueReads.{no_code, wrong_code}
use Rattle.svc_value.proofs.taken.take_fault.Goals as goal

pub returns-then-is_empty-clause-bad : goal.returns-then-is_empty-clause-bad
returns-then-is_empty-clause-bad c = no_code c.args.rest.now (grind (arith, nat_tests))

pub returns-in-None-clause-bad : goal.returns-in-None-clause-bad
returns-in-None-clause-bad c = wrong_code c.args.rest.now (grind (arith, nat_tests)) (c.in-None.ensures.none refl)
