use Rattle.std.proofs.Common.{◌∷◌, [], ◌≡◌, ◌+◌, ◌*◌, ◌<◌, ◌≤◌, ◌^◌, ◌++◌, length, take, flat_map, All, vec_len, vec_capacity}
use Rattle.wire_frame.specs.Frames.{u16_bytes}
use Rattle.wire_frame.proofs.put.put_keys.Given as goal

abbrev pub invariant-loop-key : goal.invariant-loop-key
invariant-loop-key l =
    (l.out.items ≡ (l.fn.out.items ++ length l.keys ∷ []) ++ flat_map u16_bytes (take l.key-index l.keys)) ×
    All (λ key. key < 2 ^ 16) (take l.key-index l.keys) ×
    (vec_len l.out + 2 * length l.keys ≤ vec_capacity l.out + 2 * l.key-index)
