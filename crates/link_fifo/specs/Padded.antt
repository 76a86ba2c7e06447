-- Bytes with zeros behind them.
use Rattle.std.specs.Prelude.{◌≡◌, ℕ, ◌-◌, ◌<◌, ◌≤◌, List, ◌++◌, length, take, replicate}
use Rattle.link_fifo.specs.declared.piece.Piece.TheInside.{Inside}
use Rattle.link_fifo.specs.declared.piece.TheConstants.{MAX_PIECE_LEN}

-- the bytes, and zeros up to 64 bytes
abbrev pub padded : List ℕ → List ℕ
padded bytes = bytes ++ replicate (MAX_PIECE_LEN - length bytes) 0

-- from 1 to 64 bytes stand in front, and zeros behind them
pub record IsPadded (len : ℕ) (bytes : List ℕ) : Type 0 where
  pub some : 0 < len
  pub most : len ≤ MAX_PIECE_LEN
  pub room : length (take len bytes) ≡ len
  pub back : padded (take len bytes) ≡ bytes

-- such bytes are those in front with zeros behind them
pub padded_back : (inside : Inside) → IsPadded inside.len inside.bytes → record { len = length (take inside.len inside.bytes); bytes = padded (take inside.len inside.bytes) } ≡ inside
padded_back inside h = λ i. record { len = h.room i; bytes = h.back i }
