-- What contracts see of a cutter.
use Rattle.std.specs.Prelude.{◌≡◌, ℕ, ◌+◌, ◌-◌, ◌^◌, List, ◌++◌, length, min, flat_map, All}
use Rattle.wire_frame.specs.Stream.{framed_item, IsItem}

-- the bytes that were fed and are not answered, the offset of the first of them, and how many more it has room for
pub record Cut : Type 0 where
  pub held : List ℕ
  pub offset : ℕ
  pub spare : ℕ

-- so many bytes further on, but at most the greatest u64
abbrev pub past : ℕ → ℕ → ℕ
past offset count = min (offset + count) (2 ^ 64 - 1)

-- the stream so far: the items answered and what a cutter holds, with the offset of it
pub record IsCutting (stream : List ℕ) (items : List (List ℕ)) (cut : Cut) : Type 0 where
  pub whole : stream ≡ flat_map framed_item items ++ cut.held
  pub each : All IsItem items
  pub place : cut.offset ≡ past 0 (length (flat_map framed_item items))
