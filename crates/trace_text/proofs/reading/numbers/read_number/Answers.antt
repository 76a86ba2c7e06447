use Rattle.std.proofs.Common.{subst, List, ℕ}
use Rattle.trace_text.specs.Inside.Cutting.{IsParsed}
use Rattle.trace_text.proofs.Numbers.{not_digits, not_leading, not_text, number_read}
use Rattle.trace_text.proofs.reading.numbers.read_number.Goals as goal

pub returns-then-not-are_digits : goal.returns-then-not-are_digits
returns-then-not-are_digits c = not_digits c.args.digits.now (cc (c.are_digits.ensures, c.if-not-are_digits.true))

pub returns-then-has_leading_zero : goal.returns-then-has_leading_zero
returns-then-has_leading_zero c = not_leading c.args.digits.now c.if-has_leading_zero.ensures.0 c.if-has_leading_zero.ensures.1

pub returns-in-Ok : goal.returns-in-Ok
returns-in-Ok c =
    number_read c.args.digits.now c.parsed.result (cc (c.are_digits.ensures, c.if-not-are_digits.false)) c.if-has_leading_zero.ensures
    (subst (λ (t : List ℕ). IsParsed t c.parsed.result) c.in-Ok.ensures.cases.0 c.parsed.ensures)

pub returns-in-Err : goal.returns-in-Err
returns-in-Err c = not_text c.args.digits.now c.in-Err.ensures.cases.0
