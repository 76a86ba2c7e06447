-- What stood before stays in front.
use Rattle.std.proofs.Common.{◌≡◌, ℕ, ◌≤◌, List, ◌++◌, length, take, sym, ap, ◌∙◌, length-append, arith, take-take}
use Rattle.std.proofs.lemmas.List.{take_all, take-append-le}
use Rattle.std.specs.Io.{StartsWith}

pub kept_same : (new old : List ℕ) → new ≡ old → StartsWith new old
kept_same new old h = ap (take (length old)) h ∙ take_all (length old) old (omega arith)

pub kept_behind : (new middle old text : List ℕ) → StartsWith new middle → middle ≡ old ++ text → StartsWith new old
kept_behind new middle old text s h =
    let k = ap (λ (l : List ℕ). length l) h in
    let shorter : length old ≤ length middle = omega (arith, length-append old text) in
    sym (take-take (length old) (length middle) new shorter) ∙ ap (take (length old)) (s ∙ h) ∙ take-append-le (length old) old text (omega arith) ∙ take_all (length old) old (omega arith)
