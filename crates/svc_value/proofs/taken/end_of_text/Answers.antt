use Rattle.std.proofs.Common.{◌≡◌, sym, subst, ◌+◌, inl, inr, arith, drop}
use Rattle.std.specs.Str.{IsValidUpTo}
use Rattle.std.specs.Str.Lossy.{utf8_invalid_len}
use Rattle.svc_value.proofs.Utf8Places.{stops_here, stops_within, invalid_is}
use Rattle.svc_value.specs.Prefix.{IsPlace}
use Rattle.svc_value.specs.Utf8Front.{IsTextOf}
use Rattle.svc_value.proofs.taken.end_of_text.Goals as goal
use Rattle.svc_value.proofs.taken.end_of_text.Goals.{then-first-lt194-via-then-first-lt194, then-first-lt194-via-else-first-lt194+then-first-gt244, then-first-lt194-via-else-first-lt194+else-first-gt244+then-len-start}

pub returns-then-first-lt194 : goal.returns-then-first-lt194
returns-then-first-lt194 c =
    stops_here c.args.len c.valid_up_to-start.result c.args.bytes.now (subst (IsValidUpTo c.args.bytes.now) (sym c.valid_up_to-start.ensures) c.requires.valid) c.requires.fits
    (elim c.then-first-lt194.branch [
      | then-first-lt194-via-then-first-lt194 w ↦ inl (inl (omega (arith, w.if-first-lt194)))
      | then-first-lt194-via-else-first-lt194+then-first-gt244 w ↦ inl (inr (omega (arith, w.if-first-gt244)))
      | then-first-lt194-via-else-first-lt194+else-first-gt244+then-len-start w ↦ inr (omega (arith, w.char_len.ensures, w.if-len-start))
    ])

pub returns : goal.returns
returns c =
    let n : c.unwrap_or.result ≡ utf8_invalid_len (drop c.valid_up_to-start.result c.args.bytes.now) =
    invalid_is c.valid_up_to-start.result _ c.unwrap_or.result c.args.bytes.now c.error_len.result _ c.valid_up_to-start.ensures c.error_len.ensures c.requires.fault c.unwrap_or.ensures in
    subst (λ q. IsPlace (IsTextOf c.args.len) c.args.bytes.now (c.valid_up_to-start.result + q)) (sym n)
    (stops_within c.args.len c.valid_up_to-start.result c.args.bytes.now (subst (IsValidUpTo c.args.bytes.now) (sym c.valid_up_to-start.ensures) c.requires.valid) c.requires.fits
    (omega arith) (omega arith) (omega arith))
