-- Numbers that count as `most` where they are greater.
use Rattle.std.proofs.Common.{◌≡◌, ℕ, ◌+◌, ◌-◌, ◌*◌, ◌≤◌, ◌<◌, min, length, drop, get_or, List, [], ◌∷◌, refl, ◌∙◌, arith, drop-cons, add-one}
use Rattle.svc_token.specs.Word.{number_from}

-- more digits make no number less
number_from-grows : (ds : List ℕ) (n : ℕ) → n ≤ number_from n ds
number_from-grows [] n = omega arith
number_from-grows (d ∷ ds) n =
    let more : n * 10 + (d - 48) ≤ number_from (n * 10 + (d - 48)) ds = number_from-grows ds (n * 10 + (d - 48)) in
    omega arith

-- a number behind one that is capped is capped as it was
pub number_from-capped : (ds : List ℕ) (most m n : ℕ) → min m most ≡ min n most → min (number_from m ds) most ≡ min (number_from n ds) most
number_from-capped [] most m n e = e
number_from-capped (d ∷ ds) most m n e = number_from-capped ds most (m * 10 + (d - 48)) (n * 10 + (d - 48)) (omega arith)

-- one more digit
pub one_digit : (ds : List ℕ) (i v most all : ℕ) → i < length ds → min (number_from v (drop i ds)) most ≡ all
    → min (number_from (min (min (v * 10) most + (get_or ds i 0 - 48)) most) (drop (i + 1) ds)) most ≡ all
one_digit ds i v most all below e =
    let split : drop i ds ≡ get_or ds i 0 ∷ drop (i + 1) ds = rw (add-one, drop-cons ds i 0) refl in
    let before : min (number_from v (get_or ds i 0 ∷ drop (i + 1) ds)) most ≡ all = rw (← split) e in
    number_from-capped (drop (i + 1) ds) most _ (v * 10 + (get_or ds i 0 - 48)) (omega arith) ∙ before
