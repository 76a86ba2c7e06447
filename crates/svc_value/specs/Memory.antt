-- The source and the sink in memory, as contracts see them.
use Rattle.std.specs.Prelude.{ℕ, ◌-◌, Bool, ◌&&◌, ◌||◌, ◌==◌, nat_lt, min, List, ◌++◌, length, take, drop}
use Rattle.std.specs.List.{list_any}
use Rattle.svc_value.specs.Causes.{one_more}

-- a source: the bytes still to come, the most of them in one call, the numbers of the calls that fail, the calls so far, and the faults so far
pub record SourceState : Type 0 where
  pub left : List ℕ
  pub most : ℕ
  pub failing : List ℕ
  pub calls : ℕ
  pub faults : ℕ

-- a sink: the bytes that it holds, how many it has room for in all, the most of them in one call, the numbers of the calls that fail, the calls so far, and the faults so far
pub record SinkState : Type 0 where
  pub held : List ℕ
  pub room : ℕ
  pub most : ℕ
  pub failing : List ℕ
  pub calls : ℕ
  pub faults : ℕ

-- the call of this number is among those that fail
abbrev pub is_failing : List ℕ → ℕ → Bool
is_failing failing call = list_any (λ y. y == call) failing

-- whether the next read fails
abbrev pub read_fails : SourceState → Bool
read_fails source = is_failing source.failing (one_more source.calls)

-- how many bytes the next read gives to a buffer of this length
abbrev pub read_count : SourceState → ℕ → ℕ
read_count source len = min (min (length source.left) len) source.most

-- the source after a read that gave so many bytes
abbrev pub after_read : SourceState → ℕ → SourceState
after_read source count = record source { left = drop count source.left; calls = one_more source.calls }

-- the source after a read that failed
abbrev pub after_read_fault : SourceState → SourceState
after_read_fault source = record source { calls = one_more source.calls; faults = one_more source.faults }

-- how many bytes of a piece of this length the next write takes
abbrev pub write_count : SinkState → ℕ → ℕ
write_count sink len = min (min len sink.most) (sink.room - length sink.held)

-- whether the next write of a piece of this length fails
abbrev pub write_fails : SinkState → ℕ → Bool
write_fails sink len = is_failing sink.failing (one_more sink.calls) || (write_count sink len == 0 && nat_lt 0 len)

-- the sink after a write that took the first so many bytes of the piece
abbrev pub after_write : SinkState → List ℕ → ℕ → SinkState
after_write sink piece count = record sink { held = sink.held ++ take count piece; calls = one_more sink.calls }

-- the sink after a write that failed
abbrev pub after_write_fault : SinkState → SinkState
after_write_fault sink = record sink { calls = one_more sink.calls; faults = one_more sink.faults }
