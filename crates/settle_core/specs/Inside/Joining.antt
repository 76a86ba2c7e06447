-- How workers join: what is in flight in each ring goes into its link, and then what is left in each outbox.
use Rattle.std.specs.Prelude.{◌≡◌, ◌≢◌, ℕ, ◌*◌, ◌<◌, ◌≤◌, List, [], ◌++◌, length, slice_index_or, ◌⊎◌, Option, option_to_list}
use Rattle.link_fifo.specs.Waiting.{Link}
use Rattle.link_fifo.specs.declared.piece_in.PieceIn.{PieceIn}
use Rattle.link_fifo.specs.declared.piece_out.PieceOut.{PieceOut}
use Rattle.node_core.specs.Entries.{sent_to}
use Rattle.node_core.specs.Outbox.{waiting}
use Rattle.node_core.specs.View.{NodeView}
use Rattle.settle_core.specs.declared.wired.WiredNode.{WiredNode}
use Rattle.settle_core.specs.declared.worker.Worker.{Worker}
use Rattle.settle_core.specs.Inside.Table.{waiting_in}
use Rattle.settle_core.specs.Inside.Working.{from_in, held_in, to_in, wired_nodes, IsWorker}
use Rattle.settle_core.specs.Net.{place_of, service_at, took_from, waits}
use Rattle.settle_core.specs.Rings.{handed_to, received_from}
use Rattle.settle_core.specs.Workers.{nodes_of}
use Rattle.svc_value.specs.declared.limits.TheConstants.{MAX_SERVICES}

-- the link of the reader and the sender has these frames more, behind the others, and the other links are as they were
pub record AddsFrames (reader sender : ℕ) (frames : List (List ℕ)) (old new : List Link) : Type 0 where
  pub count : length new ≡ length old
  pub here : waits (waiting_in new) reader sender ≡ waits (waiting_in old) reader sender ++ frames
  pub others : (q p : ℕ) → p < MAX_SERVICES → ((q ≡ reader) × (p ≡ sender) → ⊥) → waits (waiting_in new) q p ≡ waits (waiting_in old) q p

-- the ends of the ring to the reader from the sender, and the frame that the reader holds, are taken out
pub record TakesEnds (reader sender : ℕ) (old new : List WiredNode) (out : Option PieceOut) (into : Option PieceIn) (held : Option (List ℕ)) : Type 0 where
  pub nodes : wired_nodes new ≡ wired_nodes old
  pub count : length new ≡ length old
  pub out_is : out ≡ to_in old sender reader
  pub into_is : into ≡ from_in old reader sender
  pub held_is : held ≡ held_in old reader sender
  pub to_others : (a b : ℕ) → ((a ≡ sender) × (b ≡ reader) → ⊥) → to_in new a b ≡ to_in old a b
  pub from_others : (b a : ℕ) → ((b ≡ reader) × (a ≡ sender) → ⊥) → from_in new b a ≡ from_in old b a
  pub held_others : (b a : ℕ) → ((b ≡ reader) × (a ≡ sender) → ⊥) → held_in new b a ≡ held_in old b a

-- what the reader holds, and what of the items that were sent was not received, stands behind the others in the link
pub record Gathers (reader sender : ℕ) (all : List WiredNode) (old new : List Link) : Type 0 where
  pub rest : List (List ℕ)
  pub whole : received_from (from_in all reader sender) ++ rest ≡ handed_to (to_in all sender reader)
  pub adds : waits (waiting_in new) reader sender ≡ waits (waiting_in old) reader sender ++ (option_to_list (held_in all reader sender) ++ rest)

-- so it is for one pair, whose ends are gone then
pub record Rejoins (reader sender : ℕ) (old new : List WiredNode) (links links' : List Link) : Type 0 where
  pub nodes : wired_nodes new ≡ wired_nodes old
  pub count : length new ≡ length old
  pub gathers : Gathers reader sender old links links'
  pub table : length links' ≡ length links
  pub waits_others : (q p : ℕ) → p < MAX_SERVICES → ((q ≡ reader) × (p ≡ sender) → ⊥) → waits (waiting_in links') q p ≡ waits (waiting_in links) q p
  pub to_others : (a b : ℕ) → ((a ≡ sender) × (b ≡ reader) → ⊥) → to_in new a b ≡ to_in old a b
  pub from_others : (b a : ℕ) → ((b ≡ reader) × (a ≡ sender) → ⊥) → from_in new b a ≡ from_in old b a
  pub held_others : (b a : ℕ) → ((b ≡ reader) × (a ≡ sender) → ⊥) → held_in new b a ≡ held_in old b a

-- so it is for each pair whose link is among the first so many, and the others are as they were
pub record GatheredBelow (place : ℕ) (old new : List WiredNode) (links links' : List Link) : Type 0 where
  pub nodes : wired_nodes new ≡ wired_nodes old
  pub count : length new ≡ length old
  pub table : length links' ≡ length links
  pub done : (n p : ℕ) → n < length old → p < length old → place_of n p < place → Gathers n p old links links'
  pub to_left : (n p : ℕ) → p < MAX_SERVICES → place ≤ place_of n p → to_in new p n ≡ to_in old p n
  pub from_left : (n p : ℕ) → p < MAX_SERVICES → place ≤ place_of n p → from_in new n p ≡ from_in old n p
  pub held_left : (n p : ℕ) → p < MAX_SERVICES → place ≤ place_of n p → held_in new n p ≡ held_in old n p
  pub waits_left : (n p : ℕ) → p < MAX_SERVICES → (place ≤ place_of n p) ⊎ (length old ≤ p) → waits (waiting_in links') n p ≡ waits (waiting_in links) n p

-- so it is for each pair
pub record AreGathered (old new : List WiredNode) (links links' : List Link) : Type 0 where
  pub nodes : wired_nodes new ≡ wired_nodes old
  pub table : length links' ≡ length links
  pub each : (n p : ℕ) → n < length old → p < length old → Gathers n p old links links'
  pub past : (n p : ℕ) → p < MAX_SERVICES → length old ≤ p → waits (waiting_in links') n p ≡ waits (waiting_in links) n p

-- what the node has in its outbox stands in its links
pub record HandsRest (from : ℕ) (old new : NodeView) (links links' : List Link) : Type 0 where
  pub handed : ℕ
  pub node : new ≡ record old { outbox = []; handed = handed }
  pub table : length links' ≡ length links
  pub here : (q : ℕ) → waits (waiting_in links') q from ≡ waits (waiting_in links) q from ++ waiting q old.outbox
  pub others : (q p : ℕ) → p < MAX_SERVICES → p ≢ from → waits (waiting_in links') q p ≡ waits (waiting_in links) q p

-- each frame in an outbox has a link in a table of so many
abbrev pub EachLinked : List NodeView → ℕ → Type 0
EachLinked nodes count = (n q : ℕ) → n < length nodes → waiting q (service_at nodes n).outbox ≢ [] → place_of q n < count

-- the first so many of these nodes, of which each has handed over the rest
pub record HandedBelow (k : ℕ) (nodes new : List NodeView) (links links' : List Link) : Type 0 where
  pub count : length new ≡ k
  pub each : (n : ℕ) → n < k → (handed : ℕ) × (service_at new n ≡ record (service_at nodes n) { outbox = []; handed = handed })
  pub table : length links' ≡ length links
  pub done : (q p : ℕ) → p < k → waits (waiting_in links') q p ≡ waits (waiting_in links) q p ++ waiting q (service_at nodes p).outbox
  pub left : (q p : ℕ) → p < MAX_SERVICES → k ≤ p → waits (waiting_in links') q p ≡ waits (waiting_in links) q p

-- each of these is what a worker keeps
abbrev pub AllKept : List WiredNode → Type 0
AllKept all = (n : ℕ) (w : WiredNode) → n < length all → IsWorker (slice_index_or all n w)

-- The nodes of the workers, with nothing left to be handed over, and links in which stands what each sent to each other and the other did
-- not take. None took anything from a service past the last.
pub record Joins (workers : List Worker) (nodes : List NodeView) (links : List Link) : Type 0 where
  pub count : length nodes ≡ length workers
  pub table : length links ≡ length workers * MAX_SERVICES
  pub each : (n : ℕ) → n < length workers → (handed : ℕ) × (service_at nodes n ≡ record (service_at (nodes_of workers) n) { outbox = []; handed = handed })
  pub past : (n p : ℕ) → length workers ≤ p → took_from p (service_at (nodes_of workers) n).entries ≡ []
  pub linked : (n p : ℕ) → p < MAX_SERVICES → sent_to n (service_at (nodes_of workers) p).entries ≡ took_from p (service_at (nodes_of workers) n).entries ++ waits (waiting_in links) n p
