use Rattle.std.proofs.Common.{◌≡◌, ◌++◌, ◌∷◌, [], length, flat_map, take}
use Rattle.saved_state.specs.Bytes.{u16_bytes}
use Rattle.saved_state.proofs.writing.put_members.Given as goal

abbrev pub invariant-loop-member : goal.invariant-loop-member
invariant-loop-member l = l.out.items ≡ (l.fn.out.items ++ length l.members ∷ []) ++ flat_map u16_bytes (take l.member-index l.members)
