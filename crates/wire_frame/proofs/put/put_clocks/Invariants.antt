use Rattle.std.proofs.Common.{◌∷◌, [], ◌≡◌, ◌+◌, ◌*◌, ◌<◌, ◌≤◌, ◌^◌, ◌++◌, length, take, flat_map, All, vec_len, vec_capacity}
use Rattle.wire_frame.specs.Frames.{u32_bytes}
use Rattle.wire_frame.proofs.put.put_clocks.Given as goal

abbrev pub invariant-loop-clock : goal.invariant-loop-clock
invariant-loop-clock l =
    (l.out.items ≡ (l.fn.out.items ++ length l.clocks ∷ []) ++ flat_map u32_bytes (take l.clock-index l.clocks)) ×
    All (λ clock. clock < 2 ^ 32) (take l.clock-index l.clocks) ×
    (vec_len l.out + 4 * length l.clocks ≤ vec_capacity l.out + 4 * l.clock-index)
