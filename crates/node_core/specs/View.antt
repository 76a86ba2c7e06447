-- What contracts see of a node.
use Rattle.std.specs.Prelude.{◌≡◌, ℕ, ◌+◌, ◌<◌, ◌≤◌, List, [], ◌∷◌, ◌++◌, All, map, take, slice_index_or, length, Option}
use Rattle.std.proofs.Common.{Some}
use Rattle.propagation.specs.Lists.{AreDistinct, Has}
use Rattle.propagation.specs.Stamps.{Stamps}
use Rattle.propagation.specs.Logs.{Emission, Entry as TheEntry}
use Rattle.service_machine.specs.States.{Reader, Slot, State, number_at_head}
use Rattle.service_machine.specs.Steps.{targets}
use Rattle.svc_graph.specs.declared.definition.Change.{Change}
use Rattle.svc_graph.specs.declared.definition.Definition.{Definition}
use Rattle.svc_graph.specs.declared.kind.Kind.{Kind}
use Rattle.svc_graph.specs.History.{dependencies}
use Rattle.svc_value.specs.declared.value.Value.{Value}
use Rattle.node_core.specs.declared.entry.Computation.{Computation}
use Rattle.node_core.specs.declared.entry.Entry.{Entry}
use Rattle.node_core.specs.declared.entry.Entry.TheVariants.{Computed, Sent}
use Rattle.node_core.specs.Entries.{Extends, sent_entries, sent_to}
use Rattle.node_core.specs.Outbox.{waiting}
use Rattle.svc_value.specs.declared.limits.TheConstants.{MAX_CLOCK, MAX_DEPENDENCIES, MAX_SERVICES}

-- The log of a leg, oldest entry first; the frames that wait to be handed over, oldest first, each with its receiver; how many
-- of the leg are handed over; and for how many entries and frames more there is room.
pub record JournalView : Type 0 where
  pub entries : List Entry
  pub outbox : List (ℕ × List ℕ)
  pub handed : ℕ
  pub entry_room : ℕ
  pub outgoing_frame_room : ℕ

-- all but the room is the same
pub record SameKept (old new : JournalView) : Type 0 where
  pub entries : new.entries ≡ old.entries
  pub outbox : new.outbox ≡ old.outbox
  pub handed : new.handed ≡ old.handed

-- A node: the state of the service; the ranks and types of the leg; the changes of the leg, those that are done among them;
-- its log, oldest first; the frames that wait to be handed over, oldest first, each with its receiver; and how many frames of
-- the leg are handed over.
pub record NodeView : Type 0 where
  pub state : State Value Definition
  pub roster : List Kind
  pub changes : List Change
  pub entries : List Entry
  pub outbox : List (ℕ × List ℕ)
  pub handed : ℕ

-- the readers, all of which were told the same stamps last
abbrev pub told_all : Stamps → List (ℕ × ℕ) → List Reader
told_all stamps pairs = map (λ pair. record { service = pair.0; epoch = pair.1; told = stamps }) pairs

-- the senders of slots
abbrev pub senders : {V : Type 0} → List (Slot V) → List ℕ
senders slots = map (λ slot. slot.sender) slots

-- the slots are of different senders, and first come those of the dependencies, in their order
pub record AreInOrder {V : Type 0} (edges : List (ℕ × ℕ)) (slots : List (Slot V)) : Type 0 where
  pub apart : AreDistinct (senders slots)
  pub first : senders (take (length edges) slots) ≡ targets edges

-- the number of each head and what waits behind it are no more than the entries
abbrev pub AreCounted : {V : Type 0} → List Entry → List (Slot V) → Type 0
AreCounted {V} entries slots = (k : ℕ) (s : Slot V) → k < length slots → number_at_head (slice_index_or slots k s).head + length (slice_index_or slots k s).queue ≤ length entries

-- what was sent to each service is what was handed over and what waits
abbrev pub IsPosted : List Entry → List (ℕ × List ℕ) → Type 0
IsPosted entries outbox = (q : ℕ) → (gone : List (List ℕ)) × (sent_to q entries ≡ gone ++ waiting q outbox)

-- the dependencies of the definition are few and differ
pub record IsFew (definition : Definition) : Type 0 where
  pub apart : AreDistinct (dependencies definition)
  pub few : length (dependencies definition) ≤ MAX_DEPENDENCIES

-- The present definition and those to come are such, the number of the service fits stamps, and no clock is past its limit.
pub record IsDefined (id own : ℕ) (current : Option Definition) (left : List Definition) : Type 0 where
  pub present : (d : Definition) → current ≡ Some d → IsFew d
  pub next : (d : Definition) → Has left d → IsFew d
  pub number : 0 < own + length left → id < MAX_SERVICES
  pub clock : own + length left ≤ MAX_CLOCK
  pub clocked : (d : Definition) → current ≡ Some d → 0 < own

-- There are few edges, their epochs and those of the readers are at least 1, and the last emission has stamps.
pub record AreWithin (edges present : List (ℕ × ℕ)) (last : Option (Emission Value)) : Type 0 where
  pub few : length edges ≤ MAX_DEPENDENCIES
  pub edge_epochs : All (λ edge. 1 ≤ edge.1) edges
  pub reader_epochs : All (λ reader. 1 ≤ reader.1) present
  pub told : (m : Emission Value) → last ≡ Some m → 0 < length m.stamps

-- the frames that these entries send
abbrev pub outgoing_in : List Entry → List (ℕ × List ℕ)
outgoing_in [] = []
outgoing_in (Sent q bytes ∷ rest) = (q, bytes) ∷ outgoing_in rest
outgoing_in (entry ∷ rest) = outgoing_in rest

-- The log grows by just the entries that make this of each log, and their frames wait behind the others; the leg is the same.
pub record Grows (old new : NodeView) (step : List (TheEntry Value) → List (TheEntry Value)) : Type 0 where
  pub more : List Entry
  pub entries : new.entries ≡ old.entries ++ more
  pub outbox : new.outbox ≡ old.outbox ++ outgoing_in more
  pub handed : new.handed ≡ old.handed
  pub roster : new.roster ≡ old.roster
  pub changes : new.changes ≡ old.changes
  pub says : (log : List (TheEntry Value)) → Extends log more (step log)

-- The entry is logged, and after it the frames that are sent for it, which wait behind the others.
pub record Logs (entry : Entry) (old new : NodeView) : Type 0 where
  pub sent : List (ℕ × List ℕ)
  pub entries : new.entries ≡ old.entries ++ entry ∷ sent_entries sent
  pub outbox : new.outbox ≡ old.outbox ++ sent

-- a computation is logged, where there is a definition
abbrev pub LogsComputation : NodeView → NodeView → Type 0
LogsComputation old new = (d : Definition) → old.state.definition ≡ Some d → (computation : Computation) × Logs (Computed computation) old new

-- these bytes are the last that was handed over of what was sent to the service
abbrev pub IsLastOut : ℕ → List ℕ → List Entry → List (ℕ × List ℕ) → Type 0
IsLastOut q bytes entries outbox = (gone : List (List ℕ)) × (sent_to q entries ≡ gone ++ bytes ∷ waiting q outbox)
