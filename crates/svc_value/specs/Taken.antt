-- What is taken from the front of some bytes as a value, and why nothing is.
use Rattle.std.specs.Prelude.{◌≡◌, ℕ, ◌+◌, ◌*◌, ◌≤◌, ◌==◌, nat_lt, if◌then◌else◌, List, length, take, slice_index}
use Rattle.svc_value.specs.declared.value.Value.{Value}
use Rattle.svc_value.specs.declared.taken.ValueReason.{ValueReason}
use Rattle.svc_value.specs.declared.taken.ValueReason.TheVariants.{Short, Tag, Length, Utf8, FaultCode}
use Rattle.svc_value.specs.declared.taken.ValueError.{ValueError}
use Rattle.svc_value.specs.declared.taken.ValueError.TheVariants as error
use Rattle.svc_value.specs.Layout.{IsLayoutOf}
use Rattle.svc_value.specs.Prefix.{IsPlace}
use Rattle.svc_value.specs.declared.limits.TheConstants.{MAX_TEXT_LEN}

-- the bytes are those of some value
abbrev pub IsValue : List ℕ → Type 0
IsValue bytes = (value : Value) × IsLayoutOf value bytes

-- the first so many bytes are those of the value
pub record IsAtFront (bytes : List ℕ) (value : Value) (len : ℕ) : Type 0 where
  pub fits : len ≤ length bytes
  pub layout : IsLayoutOf value (take len bytes)

-- the field of the byte at this place: the tag, the code of a fault, the length of a text or the text; or the bytes end there
abbrev pub reason_at : List ℕ → ℕ → ValueReason
reason_at bytes place =
    if place == length bytes then Short
    else (if place == 0 then Tag
    else (if slice_index bytes 0 == 3 then FaultCode
    else (if nat_lt place 3 then Length
    else Utf8)))

-- no front of the bytes is a value's; the place is how far they begin one, and the reason is what stands there
pub record IsBadValue (bytes : List ℕ) (place : ℕ) (reason : ValueReason) : Type 0 where
  pub none : (n : ℕ) → ¬ (IsValue (take n bytes))
  pub at : IsPlace IsValue bytes place
  pub why : reason ≡ reason_at bytes place

-- the bytes are refused so, unless memory ran out
abbrev pub IsRefusedValue : List ℕ → ValueError → Type 0
IsRefusedValue bytes (error.Bad place reason) = IsBadValue bytes place reason
IsRefusedValue bytes error.OutOfMemory = Unit {0}

-- the bytes begin with a text's length in two bytes
pub record HasTextLen (bytes : List ℕ) (len : ℕ) : Type 0 where
  pub both : 2 ≤ length bytes
  pub number : len ≡ slice_index bytes 0 * 256 + slice_index bytes 1
  pub most : len ≤ MAX_TEXT_LEN
