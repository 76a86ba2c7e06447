-- Quoted texts.
use Rattle.std.specs.Prelude.{◌≡◌, ℕ, ◌+◌, ◌*◌, ◌/◌, ◌%◌, ◌≤◌, Bool, true, false, not, ◌&&◌, ◌||◌, ◌==◌, nat_lt, if◌then◌else◌, List, [], ◌∷◌, length, Option, Some, None}
use Rattle.std.specs.Char.{digit_value}
use Rattle.std.specs.Fmt.{digit_glyph}
use Rattle.std.specs.Str.{IsUtf8}
use Rattle.svc_value.specs.declared.inside.Form.{Form}
use Rattle.svc_value.specs.declared.inside.Form.TheVariants.{Any, Printed}
use Rattle.svc_value.specs.Printed.{is_escaped}
use Rattle.svc_value.specs.declared.limits.TheConstants.{MAX_TEXT_LEN}

-- every form of a literal; the other form is that of printing
abbrev pub any_form : Form
any_form = Any

-- any byte but `"`, `\` and LF stands for itself; where only printed forms are read, any that printing does not escape
abbrev pub is_itself : Form → ℕ → Bool
is_itself Any byte = not (byte == 34 || byte == 92 || byte == 10)
is_itself Printed byte = not (is_escaped byte)

-- what `\` and this byte stand for: `\"`, `\\`, `\n` or `\t`
abbrev pub short_escape : ℕ → Option ℕ
short_escape byte =
    if byte == 34 then Some 34
    else (if byte == 92 then Some 92
    else (if byte == 110 then Some 10
    else (if byte == 116 then Some 9
    else None)))

-- printing writes this byte as `\x` and two digits: it is below 20 or 7f, and neither LF nor tab
abbrev pub is_hexed : ℕ → Bool
is_hexed byte = (nat_lt byte 32 && not (byte == 9 || byte == 10)) || byte == 127

-- a byte may be written with these hexadecimal digits; where only printed forms are read, it is written so by printing
abbrev pub is_written : Form → ℕ → ℕ → ℕ → Bool
is_written Any byte high low = true
is_written Printed byte high low = is_hexed byte && digit_glyph false (byte / 16) == high && digit_glyph false (byte % 16) == low

-- what `\x` and these two bytes stand for: hexadecimal digits of either case, at most 7f
abbrev pub hex_escape : Form → ℕ → ℕ → Option ℕ
hex_escape form high low =
    let byte : ℕ = digit_value high * 16 + digit_value low in
    if nat_lt (digit_value high) 8 && nat_lt (digit_value low) 16 && is_written form byte high low then Some byte else None

-- the bytes begin with what stands for the text up to a closing quote, and the rest follows it
pub data Spells (form : Form) : List ℕ → List ℕ → List ℕ → Type 0 where
  closing : {rest : List ℕ} → Spells form (34 ∷ rest) [] rest
  itself : {byte : ℕ} {bytes text rest : List ℕ} → is_itself form byte ≡ true → Spells form bytes text rest → Spells form (byte ∷ bytes) (byte ∷ text) rest
  short : {byte means : ℕ} {bytes text rest : List ℕ} → short_escape byte ≡ Some means → Spells form bytes text rest → Spells form (92 ∷ byte ∷ bytes) (means ∷ text) rest
  hex : {high low means : ℕ} {bytes text rest : List ℕ} → hex_escape form high low ≡ Some means → Spells form bytes text rest
      → Spells form (92 ∷ 120 ∷ high ∷ low ∷ bytes) (means ∷ text) rest

-- the bytes begin with a quoted text of this meaning, which has at most 256 bytes of UTF-8, and the rest follows it
pub record IsQuoted (form : Form) (bytes text rest : List ℕ) : Type 0 where
  pub inside : List ℕ
  pub opening : bytes ≡ 34 ∷ inside
  pub spelled : Spells form inside text rest
  pub most : length text ≤ MAX_TEXT_LEN
  pub utf8 : IsUtf8 text
