-- The order in which services can be computed.
use Rattle.std.specs.Prelude.{◌≡◌, ℕ, ◌+◌, ◌*◌, ◌<◌, ◌≤◌, ◌⊎◌, List, length, slice_index}
use Rattle.svc_graph.specs.declared.kind.Kind.{Kind}
use Rattle.svc_graph.specs.History.{Row, row_at}
use Rattle.svc_graph.specs.Refusals.{kind_at}

-- service q does not come before p: its rank is higher, or it is the same and its number is no lower
abbrev pub IsUpTo : List Row → ℕ → ℕ → Type 0
IsUpTo rows p q = ((row_at rows p).rank < (row_at rows q).rank) ⊎ (((row_at rows p).rank ≡ (row_at rows q).rank) × (p ≤ q))

-- each service of the list comes no later than the ones behind it
abbrev pub IsInOrder : List Row → List ℕ → Type 0
IsInOrder rows ids = (i j : ℕ) → i ≤ j → j < length ids → IsUpTo rows (slice_index ids i) (slice_index ids j)

-- a number that is higher where the rank is, and in one rank where the number of the service is
abbrev pub order_key : List Kind → ℕ → ℕ
order_key kinds n = (kind_at kinds n).rank * 65536 + n
