-- The text of a value.
use Rattle.std.specs.Prelude.{ℕ, ◌/◌, ◌%◌, Bool, ◌||◌, ◌==◌, nat_lt, if◌then◌else◌, List, [], ◌∷◌, ◌++◌, flat_map, codes, false}
use Rattle.std.specs.Fmt.{digit_glyph, signed_decimal}
use Rattle.svc_value.specs.declared.value.Fault.{Fault}
use Rattle.svc_value.specs.declared.value.Fault.TheVariants.{Overflow, Zero, Long, Number, Empty}
use Rattle.svc_value.specs.declared.value.Value.{Value}
use Rattle.svc_value.specs.declared.value.Value.TheVariants.{Int, Words, Bad}

-- a byte below U+0020, U+007F, `"` or `\`: it does not stand for itself between quotes
abbrev pub is_escaped : ℕ → Bool
is_escaped byte = nat_lt byte 32 || byte == 127 || byte == 34 || byte == 92

-- `\x` and two digits in lower case
abbrev pub hex_escape : ℕ → List ℕ
hex_escape byte = 92 ∷ 120 ∷ digit_glyph false (byte / 16) ∷ digit_glyph false (byte % 16) ∷ []

-- what stands for a byte between quotes: `\"`, `\\`, `\n`, `\t`, `\x` with two digits, or itself
abbrev pub quoted_byte : ℕ → List ℕ
quoted_byte byte =
    if byte == 34 then 92 ∷ 34 ∷ []
    else (if byte == 92 then 92 ∷ 92 ∷ []
    else (if byte == 10 then 92 ∷ 110 ∷ []
    else (if byte == 9 then 92 ∷ 116 ∷ []
    else (if is_escaped byte then hex_escape byte
    else byte ∷ []))))

-- the text between quotes
abbrev pub between_quotes : List ℕ → List ℕ
between_quotes text = 34 ∷ flat_map quoted_byte text ++ 34 ∷ []

-- `!` and the name of a fault
abbrev pub fault_text : Fault → List ℕ
fault_text Overflow = codes "!overflow"
fault_text Zero = codes "!zero"
fault_text Long = codes "!long"
fault_text Number = codes "!number"
fault_text Empty = codes "!empty"

-- a number in decimal digits with `-` where it is negative, a quoted text, or a fault
abbrev pub printed_value : Value → List ℕ
printed_value (Int number) = signed_decimal number
printed_value (Words text) = between_quotes text
printed_value (Bad fault) = fault_text fault
