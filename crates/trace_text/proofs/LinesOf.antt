-- The lines of a text.
use Rattle.std.proofs.Common.{◌≡◌, ap, refl, ℕ, ◌<◌, arith, length, false, ◌==◌, ne_eqb, List, [], ◌∷◌, ◌++◌}
use Rattle.trace_text.specs.Inside.Cutting.{Lacks}
use Rattle.trace_text.specs.Reading.{is_ended}
use Rattle.trace_text.specs.Untraced.{before_first, lines_of}

-- a first line, with the LF that ends it
pub lines_line : (line rest : List ℕ) → Lacks 10 line → lines_of (line ++ 10 ∷ rest) ≡ (line ++ 10 ∷ []) ∷ lines_of rest
lines_line [] rest p = refl
lines_line (b ∷ line) rest p =
    let other : (b == 10) ≡ false = ne_eqb b 10 p.0 in
    rw other (ap (before_first b) (lines_line line rest p.1))

-- a last line without LF
pub lines_last : (line : List ℕ) → 0 < length line → Lacks 10 line → (lines_of line ≡ line ∷ []) × (is_ended line ≡ false)
lines_last [] some p = absurd (omega (arith, some))
lines_last (b ∷ []) some p =
    let other : (b == 10) ≡ false = ne_eqb b 10 p.0 in
    (rw other refl, other)
lines_last (b ∷ c ∷ line) some p =
    let other : (b == 10) ≡ false = ne_eqb b 10 p.0 in
    let later = lines_last (c ∷ line) (omega arith) p.1 in
    (rw other (ap (before_first b) later.0), later.1)
