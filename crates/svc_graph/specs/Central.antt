-- The central evaluation of a whole book.
use Rattle.std.specs.Prelude.{ℕ, suc, ◌<◌, List, [], ◌∷◌, length}
use Rattle.propagation.specs.History.{Central, now}
use Rattle.svc_graph.specs.History.{Row, theory}
use Rattle.svc_value.specs.declared.value.Value.{Value}

-- the numbers of these services, from the first one's on
abbrev pub services_from : ℕ → List Row → List ℕ
services_from n [] = []
services_from n (row ∷ rows) = n ∷ services_from (suc n) rows

-- the numbers of all services
abbrev pub services : List Row → List ℕ
services rows = services_from 0 rows

-- these are the values of all services: each by its last definition over those of its dependencies
abbrev pub AreCentral : List Row → List Value → Type 0
AreCentral rows values = Central (theory rows) (now (theory rows)) (services rows) values

-- every service has a definition
abbrev pub AreBorn : List Row → Type 0
AreBorn rows = (n : ℕ) → n < length rows → 0 < now (theory rows) n
