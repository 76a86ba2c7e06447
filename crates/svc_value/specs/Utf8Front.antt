-- Texts of UTF-8 of one length.
use Rattle.std.specs.Prelude.{◌≡◌, ℕ, nat_lt, if◌then◌else◌, List, length}
use Rattle.std.specs.Str.{IsUtf8}

-- the bytes are a text of UTF-8 of this length
pub record IsTextOf (len : ℕ) (bytes : List ℕ) : Type 0 where
  pub utf8 : IsUtf8 bytes
  pub length_is : length bytes ≡ len

-- how many bytes a character has whose first byte is this
abbrev pub char_len : ℕ → ℕ
char_len first = if nat_lt first 192 then 1 else (if nat_lt first 224 then 2 else (if nat_lt first 240 then 3 else 4))
