-- The lines of a text that are no trace lines.
use Rattle.std.specs.Prelude.{ℕ, Bool, not, filter, flat_map, nat_eq, codes, List, [], ◌∷◌, ◌==◌, if◌then◌else◌}
use Rattle.std.specs.List.{starts_with}

-- a byte before the first of these lines
abbrev pub before_first : ℕ → List (List ℕ) → List (List ℕ)
before_first b [] = (b ∷ []) ∷ []
before_first b (line ∷ lines) = (b ∷ line) ∷ lines

-- the lines of a text, each with the LF that ends it
abbrev pub lines_of : List ℕ → List (List ℕ)
lines_of [] = []
lines_of (b ∷ text) = if b == 10 then (b ∷ []) ∷ lines_of text else before_first b (lines_of text)

-- whether a line is a trace line
abbrev pub is_traced : List ℕ → Bool
is_traced line = starts_with nat_eq line (codes "# ")

-- the text without its trace lines
abbrev pub untraced : List ℕ → List ℕ
untraced text = flat_map (λ line. line) (filter (λ line. not (is_traced line)) (lines_of text))
