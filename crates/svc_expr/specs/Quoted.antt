-- How the code reads a quoted text: byte by byte. What one means is said by `IsLiteral` of svc_value, and this finds it.
use Rattle.std.specs.Prelude.{ℕ, ◌+◌, ◌*◌, ◌<◌, ◌&&◌, ◌==◌, nat_lt, nat_le, if◌then◌else◌, Option, Some, None, option_map, option_and_then, List, [], ◌∷◌, ◌++◌, length}
use Rattle.std.specs.Char.{digit_value}
use Rattle.std.specs.Str.{is_utf8}
use Rattle.svc_value.specs.Quoted.{short_escape}
use Rattle.svc_expr.specs.declared.quoting.Place.{Place}
use Rattle.svc_expr.specs.declared.quoting.Place.TheVariants.{Plain, Escape, High, Low, Closed}
use Rattle.svc_value.specs.declared.limits.TheConstants.{MAX_TEXT_LEN}

-- what a byte behind `\` makes: what they stand for, or the begin of two hexadecimal digits
abbrev pub escaped : ℕ → Option (Place × List ℕ)
escaped b = if b == 120 then Some (High, []) else option_map (λ means. (Plain, means ∷ [])) (short_escape b)

-- one byte of a quoted text behind its first quote: where it leads, and the bytes that it adds to the text; LF ends a line and so stands in no text
abbrev pub step : Place → ℕ → Option (Place × List ℕ)
step Plain b =
    if b == 34 then Some (Closed, [])
    else (if b == 92 then Some (Escape, [])
    else (if b == 10 then None
    else Some (Plain, b ∷ [])))
step Escape b = escaped b
step High b = if nat_lt (digit_value b) 8 then Some (Low (digit_value b), []) else None
step (Low high) b = if nat_lt (digit_value b) 16 then Some (Plain, (high * 16 + digit_value b) ∷ []) else None
step Closed b = None

-- the first of two hexadecimal digits is below 8
abbrev pub IsPlace : Place → Type 0
IsPlace (Low high) = high < 8
IsPlace place = Unit {0}

-- what is made of the bytes from a place on, which end behind the last quote
abbrev pub meaning_from : Place → List ℕ → Option (List ℕ)
meaning_from Closed [] = Some []
meaning_from place [] = None
meaning_from place (b ∷ bs) = option_and_then (λ x. option_map (λ text. x.1 ++ text) (meaning_from x.0 bs)) (step place b)

-- a text has at most 256 bytes, and is UTF-8
abbrev pub text_if : List ℕ → Option (List ℕ)
text_if text = if nat_le (length text) MAX_TEXT_LEN && is_utf8 text then Some text else None

-- the text that a quoted text means, where it means one
unfoldable pub quoted_meaning : List ℕ → Option (List ℕ)
quoted_meaning [] = None
quoted_meaning (b ∷ inside) = if b == 34 then option_and_then text_if (meaning_from Plain inside) else None
