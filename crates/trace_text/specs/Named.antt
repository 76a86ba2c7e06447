-- What an entry names.
use Rattle.std.specs.Prelude.{ℕ, ◌<◌, List, All}
use Rattle.propagation.specs.Stamps.{Stamps}
use Rattle.svc_graph.specs.History.{Row, row_at}
use Rattle.node_core.specs.declared.entry.Entry.{Entry}
use Rattle.node_core.specs.declared.entry.Entry.TheVariants.{Did, Took, Computed, Sent}
use Rattle.trace_text.specs.Naming.{Naming}

-- the names of a book
abbrev pub naming : List Row → Naming
naming rows = λ n. (row_at rows n).name

-- each key is one of the first `count` services
abbrev pub KeysBelow : ℕ → Stamps → Type 0
KeysBelow count stamps = All (λ pair. pair.0 < count) stamps

-- each service that the entry names is one of the first `count`
abbrev pub NamesBelow : ℕ → Entry → Type 0
NamesBelow count (Did clock) = Unit {0}
NamesBelow count (Took sender bytes) = sender < count
NamesBelow count (Computed c) = KeysBelow count c.stamps
NamesBelow count (Sent receiver bytes) = receiver < count
