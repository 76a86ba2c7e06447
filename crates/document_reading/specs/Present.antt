-- The book that a document finds which goes on from another, as it is made: all services first, then the last definition of each.
use Rattle.std.specs.Prelude.{ℕ, zero, suc, List, [], ◌∷◌, map, option_to_list}
use Rattle.svc_graph.specs.History.{Row, present}

-- the rows without definitions
abbrev pub bare_rows : List Row → List Row
bare_rows rows = map {A = Row} (λ row. record row { history = [] }) rows

-- the first n rows with the last definition of each, and the others without
abbrev pub half_present : ℕ → List Row → List Row
half_present zero rows = bare_rows rows
half_present (suc n) [] = []
half_present (suc n) (row ∷ rows) = record row { history = option_to_list (present row.history) } ∷ half_present n rows
