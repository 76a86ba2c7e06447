-- The bytes of a value.
use Rattle.std.specs.Prelude.{◌≡◌, ℕ, ◌≤◌, List, [], ◌∷◌, ◌++◌, length, FitsSigned}
use Rattle.std.specs.Int.{w16, w64, to_be_bytes, cast_unsigned}
use Rattle.std.specs.Str.{IsUtf8}
use Rattle.svc_value.specs.declared.value.Fault.{Fault}
use Rattle.svc_value.specs.declared.value.Fault.TheVariants.{Overflow, Zero, Long, Number, Empty}
use Rattle.svc_value.specs.declared.value.Value.{Value}
use Rattle.svc_value.specs.declared.value.Value.TheVariants.{Int, Words, Bad}
use Rattle.svc_value.specs.declared.limits.TheConstants.{MAX_TEXT_LEN}

-- the code of a fault
abbrev pub fault_code : Fault → ℕ
fault_code Overflow = 1
fault_code Zero = 2
fault_code Long = 3
fault_code Number = 4
fault_code Empty = 5

-- a tag, and then a whole number in 8 bytes of two's complement, a text behind its length in 2 bytes, or the code of a fault; the highest byte of a number stands first
abbrev pub layout : Value → List ℕ
layout (Int number) = 1 ∷ to_be_bytes w64 (cast_unsigned w64 number)
layout (Words text) = 2 ∷ to_be_bytes w16 (length text) ++ text
layout (Bad fault) = 3 ∷ fault_code fault ∷ []

-- what a value can be: a whole number of 64 bits, a text of at most 256 bytes of UTF-8, or a fault
abbrev pub IsWithin : Value → Type 0
IsWithin (Int number) = FitsSigned w64 number
IsWithin (Words text) = (length text ≤ MAX_TEXT_LEN) × IsUtf8 text
IsWithin (Bad fault) = Unit {0}

-- the bytes are those of this value
pub record IsLayoutOf (value : Value) (bytes : List ℕ) : Type 0 where
  pub within : IsWithin value
  pub bytes_are : bytes ≡ layout value
