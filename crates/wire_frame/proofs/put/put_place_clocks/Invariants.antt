use Rattle.std.proofs.Common.{◌∷◌, [], ◌≡◌, ◌+◌, ◌*◌, ◌<◌, ◌≤◌, ◌^◌, ◌++◌, length, take, flat_map, All, vec_len, vec_capacity}
use Rattle.wire_frame.specs.Frames.{place_clock}
use Rattle.wire_frame.proofs.put.put_place_clocks.Given as goal

abbrev pub invariant-loop-named : goal.invariant-loop-named
invariant-loop-named l =
    (l.out.items ≡ (l.fn.out.items ++ length l.clocks ∷ []) ++ flat_map place_clock (take l.named-index l.clocks)) ×
    All (λ named. named.clock < 2 ^ 32) (take l.named-index l.clocks) ×
    (vec_len l.out + 5 * length l.clocks ≤ vec_capacity l.out + 5 * l.named-index)
