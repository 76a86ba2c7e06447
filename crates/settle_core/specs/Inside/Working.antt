-- What a worker keeps by its type.
use Rattle.std.specs.Prelude.{◌≡◌, ◌≢◌, ℕ, List, [], ◌++◌, map, slice_index_or, Option, None, IsSome, option_to_list}
use Rattle.propagation.specs.Lists.{Has}
use Rattle.service_machine.specs.States.{State, services}
use Rattle.service_machine.specs.Steps.{targets}
use Rattle.link_fifo.specs.declared.piece_in.PieceIn.{PieceIn}
use Rattle.link_fifo.specs.declared.piece_out.PieceOut.{PieceOut}
use Rattle.node_core.specs.Entries.{sent_to}
use Rattle.node_core.specs.Lives.{IsReached}
use Rattle.node_core.specs.Outbox.{waiting}
use Rattle.node_core.specs.View.{NodeView}
use Rattle.svc_graph.specs.declared.definition.Definition.{Definition}
use Rattle.svc_graph.specs.History.{dependencies}
use Rattle.svc_value.specs.declared.value.Value.{Value}
use Rattle.settle_core.specs.declared.wired.WiredNode.{WiredNode}
use Rattle.settle_core.specs.Net.{took_from}
use Rattle.settle_core.specs.Rings.{handed_to, received_from}

-- the end of the ring to service q, the end of the ring from it, and the frame held from it
abbrev pub to_of : WiredNode → ℕ → Option PieceOut
to_of wired q = slice_index_or wired.to.items q None

abbrev pub from_of : WiredNode → ℕ → Option PieceIn
from_of wired p = slice_index_or wired.from.items p None

abbrev pub held_of : WiredNode → ℕ → Option (List ℕ)
held_of wired p = slice_index_or wired.held.items p None

-- ---- of many nodes with their rings

-- the nodes
abbrev pub wired_nodes : List WiredNode → List NodeView
wired_nodes all = map (λ wired. wired.node) all

-- the end at a of the ring to b, the end at b of the ring from a, and the frame from a that is held at b
abbrev pub to_in : List WiredNode → ℕ → ℕ → Option PieceOut
to_in all a b = slice_index_or (slice_index_or (map (λ (wired : WiredNode). wired.to.items) all) a []) b None

abbrev pub from_in : List WiredNode → ℕ → ℕ → Option PieceIn
from_in all b a = slice_index_or (slice_index_or (map (λ (wired : WiredNode). wired.from.items) all) b []) a None

abbrev pub held_in : List WiredNode → ℕ → ℕ → Option (List ℕ)
held_in all b a = slice_index_or (slice_index_or (map (λ (wired : WiredNode). wired.held.items) all) b []) a None

-- ---- what a worker keeps

-- All to which the node speaks in its leg is among these: the services that it reads by its edges and by its definitions to come, its
-- readers, and those to which it sent.
pub record SpeaksTo (Is : ℕ → Type 0) (node : NodeView) : Type 0 where
  pub edges : (q : ℕ) → Has (targets node.state.edges) q → Is q
  pub left : (d : Definition) (q : ℕ) → Has node.state.left d → Has (dependencies d) q → Is q
  pub readers : (q : ℕ) → Has (services node.state.readers) q → Is q
  pub sent : (q : ℕ) → sent_to q node.entries ≢ [] → Is q

-- the node is what calls made of a new one, whose leg began with an opening of this service
pub record IsOf (id : ℕ) (node : NodeView) : Type 0 where
  pub opening : State Value Definition
  pub reached : IsReached opening node
  pub id_is : opening.id ≡ id

-- The items that were handed to a ring are the first frames that the node sent to that service; the others wait to be handed over. The items
-- that were received from a ring are the frames that it took from that service, and then one that is held, if one is. And there is a
-- ring to each service to which the node speaks, and to each from which there is one.
pub record IsWorker (wired : WiredNode) : Type 0 where
  pub handed : (q : ℕ) → sent_to q wired.node.entries ≡ handed_to (to_of wired q) ++ waiting q wired.node.outbox
  pub received : (p : ℕ) → received_from (from_of wired p) ≡ took_from p wired.node.entries ++ option_to_list (held_of wired p)
  pub speaks : SpeaksTo (λ q. IsSome (to_of wired q)) wired.node
  pub both : (p : ℕ) → IsSome (from_of wired p) → IsSome (to_of wired p)
