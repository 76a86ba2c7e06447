-- The first line of a text, and silence from a byte on.
use Rattle.std.proofs.Common.{◌≡◌, ℕ, suc, ◌<◌, ◌≤◌, Bool, true, false, cond, List, [], ◌∷◌, length, take, drop, refl, sym, ap, subst, ◌∙◌, arith}
use Rattle.std.specs.Prelude.{◌==◌, not, if◌then◌else◌}
use Rattle.std.specs.List.{take_while}
use Rattle.std.proofs.lemmas.List.Sums.{take_while-cons}
use Rattle.document_reading.specs.Document.{lines_of, before_first_line}
use Rattle.document_reading.specs.Reading.{line_len}

taken_step : (b : ℕ) (bytes : List ℕ) (t : Bool) → (b == 10) ≡ t → length (take_while (λ c. not (c == 10)) bytes) ≡ line_len bytes
    → length (take_while (λ c. not (c == 10)) (b ∷ bytes)) ≡ line_len (b ∷ bytes)
taken_step b bytes true e h =
    ap length (take_while-cons (λ c. not (c == 10)) b bytes)
    ∙ ap (λ (t : Bool). length (cond (not t) (b ∷ take_while (λ c. not (c == 10)) bytes) [])) e
    ∙ ap (λ (t : Bool). if t then 0 else suc (line_len bytes)) (sym e)
taken_step b bytes false e h =
    ap length (take_while-cons (λ c. not (c == 10)) b bytes)
    ∙ ap (λ (t : Bool). length (cond (not t) (b ∷ take_while (λ c. not (c == 10)) bytes) [])) e
    ∙ ap suc h
    ∙ ap (λ (t : Bool). if t then 0 else suc (line_len bytes)) (sym e)

pub taken_is : (bytes : List ℕ) → length (take_while (λ b. not (b == 10)) bytes) ≡ line_len bytes
taken_is [] = refl
taken_is (b ∷ bytes) = taken_step b bytes (b == 10) refl (taken_is bytes)

pub line_len-le : (bytes : List ℕ) → line_len bytes ≤ length bytes
line_len-le [] = omega arith
line_len-le (b ∷ bytes) = len_step b bytes (b == 10) refl (line_len-le bytes)
  where
    len_step : (b : ℕ) (bytes : List ℕ) (t : Bool) → (b == 10) ≡ t → line_len bytes ≤ length bytes → line_len (b ∷ bytes) ≤ length (b ∷ bytes)
    len_step b bytes true e h = subst (λ (n : ℕ). n ≤ suc (length bytes)) (ap (λ (t : Bool). if t then 0 else suc (line_len bytes)) (sym e)) (omega arith)
    len_step b bytes false e h = subst (λ (n : ℕ). n ≤ suc (length bytes)) (ap (λ (t : Bool). if t then 0 else suc (line_len bytes)) (sym e)) (omega arith)

len_at_end : (b : ℕ) (bytes : List ℕ) → (b == 10) ≡ true → line_len (b ∷ bytes) ≡ 0
len_at_end b bytes e = ap (λ (t : Bool). if t then 0 else suc (line_len bytes)) e

len_inside : (b : ℕ) (bytes : List ℕ) → (b == 10) ≡ false → line_len (b ∷ bytes) ≡ suc (line_len bytes)
len_inside b bytes e = ap (λ (t : Bool). if t then 0 else suc (line_len bytes)) e

-- the lines are the first n bytes and those of what follows the LF behind them
abbrev pub SplitsAt : ℕ → List ℕ → Type 0
SplitsAt n bytes = lines_of bytes ≡ take n bytes ∷ lines_of (drop 1 (drop n bytes))

split_step : (b : ℕ) (bytes : List ℕ) (t : Bool) → (b == 10) ≡ t → (0 < length bytes → SplitsAt (line_len bytes) bytes) → SplitsAt (line_len (b ∷ bytes)) (b ∷ bytes)
split_step b bytes true e h =
    subst (λ (n : ℕ). SplitsAt n (b ∷ bytes)) (sym (len_at_end b bytes e))
    (ap (λ (t : Bool). if t then [] ∷ lines_of bytes else before_first_line b (lines_of bytes)) e)
split_step b [] false e h =
    subst (λ (n : ℕ). SplitsAt n (b ∷ [])) (sym (len_inside b [] e))
    (ap (λ (t : Bool). if t then [] ∷ [] else before_first_line b []) e)
split_step b (c ∷ bytes) false e h =
    subst (λ (n : ℕ). SplitsAt n (b ∷ c ∷ bytes)) (sym (len_inside b (c ∷ bytes) e))
    (ap (λ (t : Bool). if t then [] ∷ lines_of (c ∷ bytes) else before_first_line b (lines_of (c ∷ bytes))) e
    ∙ ap (before_first_line b) (h (omega arith)))

pub first_is : (bytes : List ℕ) → 0 < length bytes → SplitsAt (line_len bytes) bytes
first_is [] h = absurd (omega arith)
first_is (b ∷ bytes) h = split_step b bytes (b == 10) refl (first_is bytes)

pub drop-short : (xs : List ℕ) → length xs < 1 → drop 1 xs ≡ xs
drop-short [] h = refl
drop-short (x ∷ xs) h = absurd (omega arith)

-- the front and the back of a text that is split at its first LF
pub lines_from : (bytes front back after : List ℕ) → 0 < length bytes → (n : ℕ) → n ≡ line_len bytes → front ≡ take n bytes → back ≡ drop n bytes
    → drop 1 back ≡ after → lines_of bytes ≡ front ∷ lines_of after
lines_from bytes front back after some n len at_front at_back at_after =
    subst (λ (n : ℕ). SplitsAt n bytes) (sym len) (first_is bytes some)
    ∙ ap (λ (l : List ℕ). take n bytes ∷ lines_of l) (ap (drop 1) (sym at_back) ∙ at_after)
    ∙ ap (λ (l : List ℕ). l ∷ lines_of after) (sym at_front)
