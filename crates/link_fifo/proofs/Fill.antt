-- Filling an array from a place of a list on.
use Rattle.std.proofs.Common.{◌≡◌, ◌≤◌, zero, suc, ◌∙◌, sym, ap, ℕ, ◌+◌, ◌-◌, ◌<◌, min, List, [], ◌∷◌, ◌++◌, length, get_or, set, take, drop, arith}
use Rattle.std.proofs.lemmas.List.{length-drop, get_or-drop, take_more, take_more_set, take-take, take_min}
use Rattle.wire_frame.specs.Stream.{framed_item}

pub filled_next : (bytes want : List ℕ) (at i b : ℕ) → i < length bytes → at + i < length want → b ≡ get_or want (at + i) 0 →
    take i bytes ≡ take i (drop at want) → take (i + 1) (set bytes i b) ≡ take (i + 1) (drop at want)
filled_next bytes want at i b room within is before =
    let e : b ≡ get_or (drop at want) i 0 = is ∙ sym (get_or-drop at want i 0) in
    take_more_set bytes i b room ∙ (λ j. before j ++ e j ∷ []) ∙ sym (take_more (drop at want) i 0 (omega (arith, length-drop at want)))

pub filled : (bytes want : List ℕ) (at count : ℕ) → count ≡ min (length want - at) 64 → take count bytes ≡ take count (drop at want) →
    take 64 (take count bytes) ≡ take 64 (drop at want)
filled bytes want at count is e =
    let m : count ≡ min 64 (length (drop at want)) = omega (arith, length-drop at want) in
    ap (take 64) (e ∙ ap (λ n. take n (drop at want)) m ∙ take_min 64 (drop at want)) ∙ take-take 64 64 (drop at want) (omega arith)

-- behind the length stand the bytes of the item
pub drop-framed : (item : List ℕ) (at : ℕ) → 2 ≤ at → drop at (framed_item item) ≡ drop (at - 2) item
drop-framed item zero le = absurd (omega (arith, le))
drop-framed item (suc zero) le = absurd (omega (arith, le))
drop-framed item (suc (suc k)) le = ap (λ n. drop n item) (omega arith)
