use Rattle.std.proofs.Common.{arith}
use Rattle.std.proofs.lemmas.List.{drop_all}
use Rattle.svc_token.proofs.NumberLemmas.{one_digit}
use Rattle.svc_token.proofs.cutting.value.Goals as goal

pub loop-digit-preserved : goal.loop-digit-preserved
loop-digit-preserved c =
    rw (c.saturating_add-value.ensures, c.from.ensures, c.saturating_sub.ensures, c.saturating_mul.ensures)
    (one_digit _ _ _ _ _ c.loop-digit-test.true c.loop-digit.invariant.0, omega arith)

pub returns : goal.returns
returns c =
    let over = drop_all c.loop-digit.digit-index c.args.digits.now c.loop-digit-test.false in
    let capped = rw over at c.loop-digit.invariant.0 in
    omega (arith, capped, c.loop-digit.invariant.1)
