-- How a book is kept: the names, the kinds and the histories side by side.
use Rattle.std.specs.Prelude.{◌≡◌, ℕ, List, [], ◌∷◌, map, length}
use Rattle.std.specs.declared.string.String.{String}
use Rattle.std.specs.String.{string_bytes}
use Rattle.svc_graph.specs.declared.definition.Definition.{Definition}
use Rattle.svc_graph.specs.declared.kind.Kind.{Kind}
use Rattle.svc_graph.specs.History.{Row}
use Rattle.svc_graph.specs.Book.{IsBook}

-- the bytes of the texts
abbrev pub bytes_of : {Z : Type 0} → List (String Z) → List (List ℕ)
bytes_of texts = map string_bytes texts

-- the rows that stand in the three columns
abbrev pub rows_of : List (List ℕ) → List Kind → List (List Definition) → List Row
rows_of (name ∷ names) (kind ∷ kinds) (history ∷ histories) =
    record { name = name; rank = kind.rank; ty = kind.ty; history = history } ∷ rows_of names kinds histories
rows_of names kinds histories = []

-- the columns are as long as each other, and their rows are those of a book
pub record AreColumns (names : List (List ℕ)) (kinds : List Kind) (histories : List (List Definition)) : Type 0 where
  pub kinds_len : length kinds ≡ length names
  pub histories_len : length histories ≡ length names
  pub book : IsBook (rows_of names kinds histories)
