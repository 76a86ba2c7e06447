-- Literals, and the texts that values are printed as.
use Rattle.std.specs.Prelude.{◌≡◌, ℕ, ◌+◌, ◌-◌, ◌*◌, ◌<◌, true, ◌⊎◌, List, [], ◌∷◌, length, ℤ, pos, FitsSigned}
use lib.IntN.{neg_ℤ}
use Rattle.std.specs.Int.{w64}
use Rattle.std.specs.Str.{all_ascii_digits}
use Rattle.svc_value.specs.declared.inside.Form.{Form}
use Rattle.svc_value.specs.declared.literal.LiteralError.{LiteralError}
use Rattle.svc_value.specs.declared.literal.LiteralError.TheVariants as error
use Rattle.svc_value.specs.declared.value.Value.{Value}
use Rattle.svc_value.specs.declared.value.Value.TheVariants.{Int, Words, Bad}
use Rattle.svc_value.specs.Layout.{IsWithin}
use Rattle.svc_value.specs.Prefix.{IsRefusedAt}
use Rattle.svc_value.specs.Printed.{printed_value}
use Rattle.svc_value.specs.Quoted.{IsQuoted, any_form}

-- the number that decimal digits spell, behind the number so far
abbrev pub number_from : ℕ → List ℕ → ℕ
number_from so_far [] = so_far
number_from so_far (digit ∷ digits) = number_from (so_far * 10 + (digit - 48)) digits

-- one or more decimal digits, which spell this number; leading zeros are allowed
pub record IsNumber (bytes : List ℕ) (number : ℕ) : Type 0 where
  pub some : 0 < length bytes
  pub digits : all_ascii_digits bytes ≡ true
  pub spelled : number_from 0 bytes ≡ number

-- a number, or `-` directly followed by a number
abbrev pub IsSigned : List ℕ → ℤ → Type 0
IsSigned bytes number = ((n : ℕ) × IsNumber bytes n × (number ≡ pos n)) ⊎ ((n : ℕ) × (digits : List ℕ) × (bytes ≡ 45 ∷ digits) × IsNumber digits n × (number ≡ neg_ℤ (pos n)))

-- a literal: a number of 64 bits, or a quoted text
abbrev pub IsLiteral : List ℕ → Value → Type 0
IsLiteral bytes (Int number) = IsSigned bytes number × FitsSigned w64 number
IsLiteral bytes (Words text) = IsQuoted any_form bytes text []
IsLiteral bytes (Bad fault) = ⊥

-- the bytes are some literal
abbrev pub IsSomeLiteral : List ℕ → Type 0
IsSomeLiteral bytes = (value : Value) × IsLiteral bytes value

-- the bytes are some quoted text in such a form
abbrev pub IsWholeQuoted : Form → List ℕ → Type 0
IsWholeQuoted form bytes = (text : List ℕ) × IsQuoted form bytes text []

-- the bytes are the text of the value
pub record IsPrinted (bytes : List ℕ) (value : Value) : Type 0 where
  pub within : IsWithin value
  pub text : bytes ≡ printed_value value

-- the bytes are the text of some value
abbrev pub IsSomePrinted : List ℕ → Type 0
IsSomePrinted bytes = (value : Value) × IsPrinted bytes value

-- the bytes are refused so, unless memory ran out
abbrev pub IsRefused : (List ℕ → Type 0) → List ℕ → LiteralError → Type 0
IsRefused Member bytes (error.Bad place) = IsRefusedAt Member bytes place
IsRefused Member bytes error.OutOfMemory = Unit {0}
