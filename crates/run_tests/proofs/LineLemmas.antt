-- The lines of a text.
use Rattle.std.proofs.Common.{ℕ, suc, ◌≤◌, arith, Bool, true, false, ◌==◌, if◌then◌else◌, List, [], ◌∷◌, length}
use Rattle.trace_text.specs.Untraced.{before_first, lines_of}

longer : (b : ℕ) (lines : List (List ℕ)) (n : ℕ) → length lines ≤ n → length (before_first b lines) ≤ suc n
longer b [] n le = omega arith
longer b (line ∷ lines) n le = omega (arith, le)

one_more : (b : ℕ) (lines : List (List ℕ)) (n : ℕ) (ends : Bool) → length lines ≤ n → length (if ends then (b ∷ []) ∷ lines else before_first b lines) ≤ suc n
one_more b lines n true le = omega (arith, le)
one_more b lines n false le = longer b lines n le

-- a text has no more lines than bytes
pub few_lines : (bytes : List ℕ) → length (lines_of bytes) ≤ length bytes
few_lines [] = omega arith
few_lines (b ∷ bytes) = one_more b (lines_of bytes) (length bytes) (b == 10) (few_lines bytes)
