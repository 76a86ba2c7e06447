-- Parts of a frame, and where some bytes stop to be one.
use Rattle.std.specs.Prelude.{◌≡◌, ℕ, suc, ◌+◌, ◌<◌, ◌≤◌, ◌^◌, List, [], ◌∷◌, ◌++◌, length, get_or, take, drop, replicate}
use Rattle.wire_frame.specs.declared.reason.FrameReason.{FrameReason}
use Rattle.wire_frame.specs.declared.reason.FrameReason.TheVariants.{Short}
use Rattle.wire_frame.specs.declared.errors.FrameError.{FrameError}
use Rattle.wire_frame.specs.declared.errors.FrameError.TheVariants as error
use Rattle.svc_value.specs.declared.value.Value.{Value}
use Rattle.svc_value.specs.Layout.{layout, IsWithin}
use Rattle.wire_frame.specs.Fields.{key_fields, value_fields}
use Rattle.wire_frame.specs.Frames.{u32_bytes, u16_bytes}

-- things of one kind: which of them can stand, the bytes of each, and the field of each byte
pub record Part (X : Type 0) : Type 1 where
  pub Good : X → Type 0
  pub bytes : X → List ℕ
  pub fields : X → List FrameReason

-- one part, and behind it another, which it may decide
abbrev pub chain : {X Y : Type 0} → Part X → (X → Part Y) → Part (X × Y)
chain A B = record {
  Good = λ p. A.Good p.0 × (B p.0).Good p.1;
  bytes = λ p. A.bytes p.0 ++ (B p.0).bytes p.1;
  fields = λ p. A.fields p.0 ++ (B p.0).fields p.1;
}

-- The bytes go wrong at the place: those before it begin what can stand here, and with the byte at the place they begin nothing.
-- The reason is the field of that byte, or Short where there is none.
pub record IsWrong {X : Type 0} (part : Part X) (bytes : List ℕ) (place : ℕ) (reason : FrameReason) : Type 0 where
  pub like : X
  pub good : part.Good like
  pub within : place ≤ length bytes
  pub begun : take place (part.bytes like) ≡ take place bytes
  pub more : place < length (part.bytes like)
  pub short : place ≡ length bytes → reason ≡ Short
  pub field : place < length bytes → get_or (part.fields like) place Short ≡ reason
  pub end : place < length bytes → (x : X) → part.Good x → take (suc place) (part.bytes x) ≡ take (suc place) bytes → ⊥

-- what stands in front of the bytes
pub record IsNext {X : Type 0} (part : Part X) (x : X) (bytes rest : List ℕ) : Type 0 where
  pub good : part.Good x
  pub is : bytes ≡ part.bytes x ++ rest

-- ---- numbers and values

-- a value
abbrev pub value_part : Part Value
value_part = record { Good = IsWithin; bytes = layout; fields = value_fields }

-- a clock, which is at least 1, in 4 bytes
abbrev pub clock_part : FrameReason → Part ℕ
clock_part field = record { Good = λ n. (1 ≤ n) × (n < 2 ^ 32); bytes = u32_bytes; fields = λ _. replicate 4 field }

-- a number from the least to the most, in one byte
abbrev pub byte_part : FrameReason → ℕ → ℕ → Part ℕ
byte_part field least most = record { Good = λ n. (least ≤ n) × (n ≤ most); bytes = λ n. n ∷ []; fields = λ _. field ∷ [] }

-- a key from the least to the most, in 2 bytes
abbrev pub key_part : ℕ → ℕ → Part ℕ
key_part least most = record { Good = λ n. (least ≤ n) × (n ≤ most); bytes = u16_bytes; fields = λ _. key_fields }

-- ---- at a place of some bytes

-- x stands in the bytes from the one place to the other
pub record Stands {X : Type 0} (part : Part X) (x : X) (bytes : List ℕ) (at to : ℕ) : Type 0 where
  pub good : part.Good x
  pub end : to ≡ at + length (part.bytes x)
  pub within : to ≤ length bytes
  pub is : drop at bytes ≡ part.bytes x ++ drop to bytes

-- from the place on the bytes go wrong as the error says, unless memory ran out
abbrev pub Fails : {X : Type 0} → Part X → List ℕ → ℕ → FrameError → Type 0
Fails part bytes at (error.Bad place reason) = (more : ℕ) × (place ≡ at + more) × IsWrong part (drop at bytes) more reason
Fails part bytes at error.OutOfMemory = Unit {0}
