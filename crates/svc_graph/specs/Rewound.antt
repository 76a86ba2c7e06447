-- The rows as they were at earlier clocks.
use Rattle.std.specs.Prelude.{ℕ, List, [], ◌∷◌, map, length, take}
use Rattle.svc_graph.specs.declared.definition.Definition.{Definition}
use Rattle.svc_graph.specs.History.{Row}

-- how many definitions each row has
abbrev pub clocks_of : List Row → List ℕ
clocks_of rows = map (λ row. length row.history) rows

-- of the first rows as many as there are clocks, each with its first so many definitions
abbrev pub rewound_rows : List Row → List ℕ → List Row
rewound_rows [] clocks = []
rewound_rows (row ∷ rows) [] = []
rewound_rows (row ∷ rows) (clock ∷ clocks) = record row { history = take clock row.history } ∷ rewound_rows rows clocks

-- the same of histories
abbrev pub shortened : List (List Definition) → List ℕ → List (List Definition)
shortened [] clocks = []
shortened (history ∷ histories) [] = []
shortened (history ∷ histories) (clock ∷ clocks) = take clock history ∷ shortened histories clocks
