use Rattle.std.proofs.Common.{◌∙◌, is_some, ap, sym, refl, arith}
use Rattle.central_eval.proofs.Marking.{AreInTime-below, no-key-past}
use Rattle.central_eval.proofs.reaching.are_in_time.Goals as goal

pub returns-then-is_some-clause-in_time : goal.returns-then-is_some-clause-in_time
returns-then-is_some-clause-in_time c = (
  λ t. absurd (cc t),
  λ time. absurd (no-key-past c.args.book.now c.args.stamps.now c.len-count.result (omega arith) c.next_key.ensures.stamps
      (sym (ap is_some c.next_key.ensures.key) ∙ sym c.is_some.ensures ∙ c.if-is_some.true) time),
)

pub returns-clause-in_time : goal.returns-clause-in_time
returns-clause-in_time c = (
  λ t. AreInTime-below c.args.book.now c.args.stamps.now c.len-count.result
      (sym (ap is_some c.next_key.ensures.key) ∙ sym c.is_some.ensures ∙ c.if-is_some.false)
      (λ q below. c.loop-number.invariant q (omega (arith, c.loop-number-test.false))),
  λ time. refl,
)
