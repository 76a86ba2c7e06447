-- The words that are no names.
use Rattle.std.specs.Prelude.{ℕ, List, [], ◌∷◌, Option, Some, None, codes, if◌then◌else◌}
use Rattle.std.specs.Option.{option_or}
use Rattle.std.specs.Str.{bytes_eq}
use Rattle.svc_token.specs.declared.keyword.Keyword.{Keyword}
use Rattle.svc_token.specs.declared.keyword.Keyword.TheVariants as keyword

-- letters, each with the keyword that they spell
abbrev pub Spellings : Type 0
Spellings = List (List ℕ × Keyword)

-- the keywords that begin a line
abbrev pub first_keywords : Spellings
first_keywords =
    (codes "input", keyword.Input) ∷ (codes "derived", keyword.Derived) ∷ (codes "set", keyword.Set) ∷ (codes "add", keyword.Add) ∷
    (codes "drop", keyword.Drop) ∷ (codes "settle", keyword.Settle) ∷ (codes "do", keyword.Do) ∷ (codes "take", keyword.Take) ∷
    (codes "turn", keyword.Turn) ∷ (codes "define", keyword.Define) ∷ []

-- the keywords inside a line or an expression
abbrev pub inner_keywords : Spellings
inner_keywords =
    (codes "from", keyword.From) ∷ (codes "over", keyword.Over) ∷ (codes "rank", keyword.Rank) ∷ (codes "int", keyword.Int) ∷
    (codes "if", keyword.If) ∷ (codes "then", keyword.Then) ∷ (codes "else", keyword.Else) ∷ (codes "and", keyword.And) ∷
    (codes "or", keyword.Or) ∷ (codes "not", keyword.Not) ∷ []

-- the keywords that name a call, of which `text` is a type too
abbrev pub call_keywords : Spellings
call_keywords =
    (codes "text", keyword.Text) ∷ (codes "len", keyword.Len) ∷ (codes "number", keyword.Number) ∷ (codes "sum", keyword.Sum) ∷
    (codes "count", keyword.Count) ∷ (codes "min", keyword.Min) ∷ (codes "max", keyword.Max) ∷ []

-- the keyword that a word spells in a table
abbrev pub keyword_in : Spellings → List ℕ → Option Keyword
keyword_in [] word = None
keyword_in (row ∷ rows) word = if bytes_eq word row.0 then Some row.1 else keyword_in rows word

-- the keyword that a word spells
unfoldable pub keyword_of : List ℕ → Option Keyword
keyword_of word =
    option_or (keyword_in first_keywords word) (option_or (keyword_in inner_keywords word) (keyword_in call_keywords word))
