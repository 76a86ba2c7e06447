use Rattle.std.proofs.Common.{◌≡◌, ◌≤◌, min, drop}
use Rattle.svc_token.specs.Word.{number_from, decimal_value}
use Rattle.svc_token.proofs.cutting.value.Given as goal

abbrev pub invariant-loop-digit : goal.invariant-loop-digit
invariant-loop-digit l =
    (min (number_from l.value (drop l.digit-index l.digits)) 18446744073709551615 ≡ min (decimal_value l.digits) 18446744073709551615)
    × (l.value ≤ 18446744073709551615)
