use Rattle.std.proofs.Common.{arith}
use Rattle.std.proofs.lemmas.Bool.Decides.{nat_tests}
use Rattle.svc_value.proofs.ValueReads.{no_length, high_wrong, low_wrong}
use Rattle.svc_value.proofs.taken.text_len.Goals as goal

pub returns-then-is_empty-clause-bad : goal.returns-then-is_empty-clause-bad
returns-then-is_empty-clause-bad c = no_length c.args.rest.now (grind (arith, nat_tests))

pub returns-then-rest-gt1-clause-bad : goal.returns-then-rest-gt1-clause-bad
returns-then-rest-gt1-clause-bad c = high_wrong c.args.rest.now (grind (arith, nat_tests)) (omega arith)

pub returns-then-len-gt-MAX_TEXT_LEN-clause-bad : goal.returns-then-len-gt-MAX_TEXT_LEN-clause-bad
returns-then-len-gt-MAX_TEXT_LEN-clause-bad c =
    low_wrong c.args.rest.now (grind (arith, nat_tests)) (omega arith) (omega (arith, c.type_inv.rest 1)) (grind (arith, nat_tests))
