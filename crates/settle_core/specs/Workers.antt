-- Workers: each service with its node and the ends of its rings, apart from the others; and when they may be put together.
use Rattle.std.specs.Prelude.{◌≡◌, ◌≢◌, ℕ, false, ◌-◌, ◌<◌, ◌≤◌, List, [], map, length, slice_index_or, Option, None, Some}
use Rattle.propagation.specs.Logs.{Entry as TheEntry, Leg}
use Rattle.propagation.specs.Stamps.{Stamps}
use Rattle.service_machine.specs.Draining.{is_work}
use Rattle.service_machine.specs.Gathering.{AreOpening, AreOf, gathered_leg}
use Rattle.service_machine.specs.Openings.{new_state}
use Rattle.service_machine.specs.States.{State}
use Rattle.service_machine.specs.Steps.{choice_of}
use Rattle.link_fifo.specs.Ends.{room}
use Rattle.link_fifo.specs.declared.piece_in.PieceIn.{PieceIn}
use Rattle.link_fifo.specs.declared.piece_out.PieceOut.{PieceOut}
use Rattle.node_core.specs.Legs.{StaysInLeg}
use Rattle.node_core.specs.Lives.{IsReached}
use Rattle.node_core.specs.Outbox.{waiting}
use Rattle.node_core.specs.View.{NodeView}
use Rattle.svc_graph.specs.Book.{IsBook}
use Rattle.svc_graph.specs.declared.definition.Definition.{Definition}
use Rattle.svc_graph.specs.History.{Row, history_of, roster_of, theory}
use Rattle.svc_plan.specs.Rows.{EachBorn}
use Rattle.svc_value.specs.declared.value.Value.{Value}
use Rattle.settle_core.specs.declared.crew.Crew.{Crew}
use Rattle.settle_core.specs.declared.worker.Worker.{Worker}
use Rattle.settle_core.specs.Legs.{InLeg}
use Rattle.settle_core.specs.Net.{NetworkView, service_at}
use Rattle.settle_core.specs.Rings.{ringed, IsTied, SameTo, SameFrom}

-- ---- one worker

-- the node of a worker
abbrev pub node_of : Worker → NodeView
node_of worker = worker.wired.node

-- the end of the ring to service q, if there is one
abbrev pub end_to : ℕ → Worker → Option PieceOut
end_to q worker = slice_index_or worker.wired.to.items q None

-- the end of the ring from service p, if there is one
abbrev pub end_from : ℕ → Worker → Option PieceIn
end_from p worker = slice_index_or worker.wired.from.items p None

-- the peers of a worker: the services to which it has a ring, rising
abbrev pub peers_of : Worker → List ℕ
peers_of worker = ringed 0 worker.wired.to.items

-- each end belongs to the same ring as before
pub record SameEnds (old new : Worker) : Type 0 where
  pub to : (q : ℕ) → SameTo (end_to q old) (end_to q new)
  pub from : (p : ℕ) → SameFrom (end_from p old) (end_from p new)

-- The worker goes on: it is of the same service, its node is in the same leg, which began with the same opening and has the same
-- changes, and each end belongs to the same ring.
pub record GoesOn (old new : Worker) : Type 0 where
  pub service : new.id ≡ old.id
  pub leg : StaysInLeg (node_of old) (node_of new)
  pub ends : SameEnds old new

-- a frame that is not handed over is left only for a service at whose ring end no room is known
abbrev pub HasHandedOver : Worker → Type 0
HasHandedOver worker = (q : ℕ) → waiting q (node_of worker).outbox ≢ [] → (end : PieceOut) × (end_to q worker ≡ Some end) × (room end ≡ 0)

-- no change is left, a turn would neither take a value nor compute, and what fits is handed over
pub record HasEnded (worker : Worker) : Type 0 where
  pub all_done : (node_of worker).state.left ≡ []
  pub calm : is_work (choice_of (node_of worker).state) ≡ false
  pub handed : HasHandedOver worker

-- ---- all workers

-- the nodes of workers
abbrev pub nodes_of : List Worker → List NodeView
nodes_of workers = map (λ worker. node_of worker) workers

-- the end at service a of the ring to service b, if there is one
abbrev pub to_at : List Worker → ℕ → ℕ → Option PieceOut
to_at workers a b = slice_index_or (slice_index_or (map (λ (worker : Worker). worker.wired.to.items) workers) a []) b None

-- the end at service b of the ring from service a, if there is one
abbrev pub from_at : List Worker → ℕ → ℕ → Option PieceIn
from_at workers b a = slice_index_or (slice_index_or (map (λ (worker : Worker). worker.wired.from.items) workers) b []) a None

-- the two ends of each pair belong to one ring
unfoldable pub AreTied : List Worker → Type 0
AreTied workers = (a b : ℕ) → IsTied (to_at workers a b) (from_at workers b a)

-- Each of these workers goes on, place by place.
pub record AllGoOn (old new : List Worker) : Type 0 where
  pub count : length new ≡ length old
  pub each : (i : ℕ) (w v : Worker) → i < length old → GoesOn (slice_index_or old i w) (slice_index_or new i v)

-- ---- when workers may be put together

-- These are the openings of the nodes, and together they are the opening of the histories up to their clocks: there is one node for
-- each service of the book, in order, and each service is born; each node knows the ranks and the types of all, and its leg began
-- with its opening, in which definition and edges are those of the histories, and no clock, epoch or last epoch is above its
-- service's clock; and the changes of each give the rest of its service's history.
pub record AreOpenings (rows : List Row) (nodes : List NodeView) (openings : ℕ → State Value Definition) : Type 0 where
  pub book : IsBook rows
  pub born : EachBorn rows
  pub count : length nodes ≡ length rows
  pub rosters : (n : ℕ) → n < length nodes → (service_at nodes n).roster ≡ roster_of rows
  pub reached : (n : ℕ) → n < length nodes → IsReached (openings n) (service_at nodes n)
  pub others : (n : ℕ) → length nodes ≤ n → openings n ≡ new_state n
  pub together : AreOpening (theory rows) openings
  pub of_book : AreOf (theory rows) openings
  pub start : (n : ℕ) → (openings n).own ≡ length (history_of rows n) - length (service_at nodes n).changes

-- some are
pub record HaveOpenings (rows : List Row) (nodes : List NodeView) : Type 0 where
  pub openings : ℕ → State Value Definition
  pub are : AreOpenings rows nodes openings

-- ---- from a network to its workers, and back

-- a leg is open, and every log is empty
abbrev pub HasBegun : NetworkView → Type 0
HasBegun net = (n : ℕ) → (service_at net.services n).entries ≡ []

-- the crew of a network: its book, and a worker for each node, in order, with the ends of rings between them
pub record IsCrewOf (net : NetworkView) (crew : Crew) : Type 0 where
  pub book : crew.book ≡ net.rows
  pub nodes : nodes_of crew.workers.items ≡ net.services
  pub tied : AreTied crew.workers.items

-- the network is in this leg
pub record IsIn (g : Leg Value Definition) (net : NetworkView) : Type 0 where
  pub low : ℕ → Stamps
  pub logs : ℕ → List (TheEntry Value)
  pub is : InLeg net g low logs

-- The network has the book of the crew, and its nodes, but for their frames that are to be handed over. It is in the leg that
-- began with their openings.
pub record IsGathered (crew : Crew) (net : NetworkView) : Type 0 where
  pub rows : net.rows ≡ crew.book
  pub nodes : (n : ℕ) → (handed : ℕ) × (service_at net.services n ≡ record (service_at (nodes_of crew.workers.items) n) { outbox = []; handed = handed })
  pub in_leg : (openings : ℕ → State Value Definition) → AreOpenings crew.book (nodes_of crew.workers.items) openings → IsIn (gathered_leg (theory net.rows) openings) net

-- ---- the same leg

-- the book is the same, and so is the leg
pub record SameLeg (old new : NetworkView) : Type 0 where
  pub rows : new.rows ≡ old.rows
  pub leg : (g : Leg Value Definition) (low : ℕ → Stamps) (before : ℕ → List (TheEntry Value)) → InLeg old g low before → IsIn g new
