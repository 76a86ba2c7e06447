-- Rows whose names are names of the document language.
use Rattle.std.specs.Prelude.{List, [], ◌∷◌}
use Rattle.svc_graph.specs.History.{Row}
use Rattle.svc_token.specs.Word.{IsName}

-- each service has a name
abbrev pub HaveNames : List Row → Type 0
HaveNames [] = Unit {0}
HaveNames (row ∷ rows) = IsName row.name × HaveNames rows
