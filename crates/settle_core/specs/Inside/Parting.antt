-- How the nodes of a network part: rings are laid between those that may speak, and each node gets its ends.
use Rattle.std.specs.Prelude.{◌≡◌, ℕ, ◌<◌, List, [], length, slice_index_or, None, Some, IsSome}
use Rattle.propagation.specs.Lists.{Has}
use Rattle.service_machine.specs.Steps.{targets}
use Rattle.link_fifo.specs.Ends.{items_sent, items_received, OneStream}
use Rattle.link_fifo.specs.declared.piece_in.PieceIn.{PieceIn}
use Rattle.link_fifo.specs.declared.piece_out.PieceOut.{PieceOut}
use Rattle.node_core.specs.View.{NodeView}
use Rattle.svc_graph.specs.declared.definition.Definition.{Definition}
use Rattle.svc_graph.specs.History.{Row, at_clock, dependencies, history_of}
use Rattle.settle_core.specs.declared.wired.WiredNode.{WiredNode}
use Rattle.settle_core.specs.Inside.Working.{from_in, from_of, held_in, held_of, to_in, to_of, wired_nodes, IsOf, IsWorker}
use Rattle.settle_core.specs.Legs.{IsNetwork}
use Rattle.settle_core.specs.Net.{service_at}
use Rattle.settle_core.specs.Rings.{handed_to, received_from, IsTied}
use Rattle.settle_core.specs.Workers.{HasBegun}

-- the network of these rows and nodes, with some links, whose leg has begun
pub record HasParts (rows : List Row) (nodes : List NodeView) : Type 0 where
  pub links : List (List (List ℕ))
  pub network : IsNetwork (record { rows = rows; services = nodes; links = links })
  pub begun : HasBegun (record { rows = rows; services = nodes; links = links })

-- the node, without rings
pub record IsUnwired (node : NodeView) (wired : WiredNode) : Type 0 where
  pub node_is : wired.node ≡ node
  pub to : (q : ℕ) → to_of wired q ≡ None
  pub from : (p : ℕ) → from_of wired p ≡ None
  pub held : (p : ℕ) → held_of wired p ≡ None

-- these nodes, without rings
pub record AreUnwired (nodes : List NodeView) (all : List WiredNode) : Type 0 where
  pub nodes_are : wired_nodes all ≡ nodes
  pub to : (a b : ℕ) → to_in all a b ≡ None
  pub from : (b a : ℕ) → from_in all b a ≡ None
  pub held : (b a : ℕ) → held_in all b a ≡ None

-- the rings have two ends each, which no item has passed, and no frame is held
pub record AreLaid (all : List WiredNode) : Type 0 where
  pub tied : (a b : ℕ) → IsTied (to_in all a b) (from_in all b a)
  pub handed : (a b : ℕ) → handed_to (to_in all a b) ≡ []
  pub received : (b a : ℕ) → received_from (from_in all b a) ≡ []
  pub held : (b a : ℕ) → held_in all b a ≡ None

-- where there is a ring to a service, there is one from it
abbrev pub ArePaired : List WiredNode → Type 0
ArePaired all = (a b : ℕ) → IsSome (to_in all a b) → IsSome (to_in all b a)

-- the rings more: the nodes are the same, and no ring is gone
pub record MoreRings (old new : List WiredNode) : Type 0 where
  pub nodes : wired_nodes new ≡ wired_nodes old
  pub count : length new ≡ length old
  pub kept : (a b : ℕ) → IsSome (to_in old a b) → IsSome (to_in new a b)
  pub laid : AreLaid old → AreLaid new
  pub paired : ArePaired old → ArePaired new

-- a new ring from a to b, in place of one that there was
pub record LaysRing (a b : ℕ) (old new : List WiredNode) : Type 0 where
  pub nodes : wired_nodes new ≡ wired_nodes old
  pub count : length new ≡ length old
  pub out : PieceOut
  pub into : PieceIn
  pub tied : OneStream out into
  pub unsent : items_sent out ≡ []
  pub unread : items_received into ≡ []
  pub to : to_in new a b ≡ Some out
  pub from : from_in new b a ≡ Some into
  pub to_others : (c d : ℕ) → ((c ≡ a) × (d ≡ b) → ⊥) → to_in new c d ≡ to_in old c d
  pub from_others : (d c : ℕ) → ((d ≡ b) × (c ≡ a) → ⊥) → from_in new d c ≡ from_in old d c
  pub held : (d c : ℕ) → held_in new d c ≡ held_in old d c

-- there is a ring from a to b, and one from b to a
abbrev pub HasRings : ℕ → ℕ → List WiredNode → Type 0
HasRings a b all = IsSome (to_in all a b) × IsSome (to_in all b a)

-- and they may be new
pub record Lays (a b : ℕ) (old new : List WiredNode) : Type 0 where
  pub wires : MoreRings old new
  pub there : ArePaired old → HasRings a b new

-- so it is between a and each of these
pub record LaysAll (a : ℕ) (others : List ℕ) (old new : List WiredNode) : Type 0 where
  pub wires : MoreRings old new
  pub there : ArePaired old → (q : ℕ) → Has others q → HasRings a q new

-- All services that are read by edges and by the definitions at the clocks behind `own` and below `limit` are among these; and where all of
-- them are below `count`, so are these.
pub record AreRead (count : ℕ) (edges : List ℕ) (own : ℕ) (history : List Definition) (limit : ℕ) (ids : List ℕ) : Type 0 where
  pub by_edges : (q : ℕ) → Has edges q → Has ids q
  pub to_come : (c q : ℕ) (d : Definition) → own < c → c < limit → at_clock history c ≡ Some d → Has (dependencies d) q → Has ids q
  pub below : ((q : ℕ) → Has edges q → q < count) → ((c q : ℕ) (d : Definition) → at_clock history c ≡ Some d → Has (dependencies d) q → q < count) → (q : ℕ) → Has ids q → q < count

-- each node reads declared services alone
pub record ReadWithin (rows : List Row) (nodes : List NodeView) : Type 0 where
  pub by_edges : (n q : ℕ) → n < length rows → Has (targets (service_at nodes n).state.edges) q → q < length rows
  pub to_come : (n c q : ℕ) (d : Definition) → n < length rows → at_clock (history_of rows n) c ≡ Some d → Has (dependencies d) q → q < length rows

-- there are rings between service n and each that it reads in its leg
pub record IsServed (n : ℕ) (history : List Definition) (all : List WiredNode) : Type 0 where
  pub by_edges : (q : ℕ) → Has (targets (service_at (wired_nodes all) n).state.edges) q → HasRings n q all
  pub to_come : (c q : ℕ) (d : Definition) → (service_at (wired_nodes all) n).state.own < c → at_clock history c ≡ Some d → Has (dependencies d) q → HasRings n q all

-- each of these is what a worker keeps
pub record AreWorkers (all : List WiredNode) : Type 0 where
  pub logs : (n : ℕ) (w : WiredNode) → n < length all → IsOf n (slice_index_or all n w).node
  pub each : (n : ℕ) (w : WiredNode) → n < length all → IsWorker (slice_index_or all n w)
