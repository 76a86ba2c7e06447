-- What an event makes of nodes and links: one node acts, and what it sent is in its links.
use Rattle.std.specs.Prelude.{◌≡◌, ◌≢◌, ℕ, suc, ◌<◌, ◌≤◌, ◌==◌, Bool, true, false, List, [], ◌∷◌, ◌++◌, length, slice_get, if◌then◌else◌}
use Rattle.std.proofs.Common.{Some}
use Rattle.propagation.specs.Lists.{AreDistinct, Has}
use Rattle.propagation.specs.Logs.{Entry as TheEntry, Frame}
use Rattle.service_machine.specs.States.{State, services}
use Rattle.service_machine.specs.Steps.{Accepts, after_taking, took_log, targets}
use Rattle.svc_graph.specs.History.{at_clock, dependencies}
use Rattle.svc_graph.specs.declared.definition.Definition.{Definition}
use Rattle.svc_value.specs.declared.value.Value.{Value}
use Rattle.wire_frame.specs.Message.{IsMessage}
use Rattle.node_core.specs.declared.entry.Entry.{Entry}
use Rattle.node_core.specs.Entries.{Extends, sent_to}
use Rattle.node_core.specs.Legs.{StaysInLeg}
use Rattle.node_core.specs.Ranks.{rank_in, typed_in}
use Rattle.node_core.specs.View.{NodeView}
use Rattle.settle_core.specs.Net.{service_at, took_from, place_of, waits}
use Rattle.svc_value.specs.declared.limits.TheConstants.{MAX_CLOCK, MAX_SERVICES}

-- what these entries of service n took from the link of k and p
abbrev pub gone : ℕ → List Entry → ℕ → ℕ → List (List ℕ)
gone n more k p = if k == n then took_from p more else []

-- what these entries of service n put into the link of k and p
abbrev pub came : ℕ → List Entry → ℕ → ℕ → List (List ℕ)
came n more k p = if p == n then sent_to k more else []

-- The node of service n is then in this state and in the same leg, its log has the entries more that make this of each log, and the links
-- have what these entries say.
pub record NodeActs (n : ℕ) (after : State Value Definition) (step : List (TheEntry Value) → List (TheEntry Value)) (old new : NodeView) (links links' : List (List (List ℕ))) : Type 0 where
  pub table : length links' ≡ length links
  pub state : new.state ≡ after
  pub roster : new.roster ≡ old.roster
  pub changes : new.changes ≡ old.changes
  pub stays : StaysInLeg old new
  pub handed : new.outbox ≡ []
  pub more : List Entry
  pub entries : new.entries ≡ old.entries ++ more
  pub says : (log : List (TheEntry Value)) → Extends log more (step log)
  pub carried : (k p : ℕ) → p < MAX_SERVICES → gone n more k p ++ waits links' k p ≡ waits links k p ++ came n more k p

-- the other nodes are as they were
pub record Acts (n : ℕ) (after : State Value Definition) (step : List (TheEntry Value) → List (TheEntry Value)) (old new : List NodeView) (links links' : List (List (List ℕ))) : Type 0 where
  pub others : (k : ℕ) → k ≢ n → service_at new k ≡ service_at old k
  pub count : length new ≡ length old
  pub node : NodeActs n after step (service_at old n) (service_at new n) links links'

-- each of these services has a link from service n in a table of so many links
abbrev pub HaveLinks : ℕ → ℕ → List ℕ → Type 0
HaveLinks n count services = (q : ℕ) → Has services q → place_of q n < count

-- what an event of a node rests on: its number, and that nothing is left in its outbox
pub record IsReady (n : ℕ) (node : NodeView) : Type 0 where
  pub number : n < MAX_SERVICES
  pub handed : node.outbox ≡ []

-- a turn: the readers differ, and have links
pub record CanTurn (n : ℕ) (node : NodeView) (count : ℕ) : Type 0 where
  pub ready : IsReady n node
  pub once : AreDistinct (services node.state.readers)
  pub readers : HaveLinks n count (services node.state.readers)

-- a change: the history has the next definition, and the dependencies before and after it have links
pub record CanDo (n : ℕ) (node : NodeView) (history : List Definition) (count : ℕ) : Type 0 where
  pub ready : IsReady n node
  pub next : at_clock history (suc node.state.own) ≡ slice_get node.state.left 0
  pub clock : node.state.own ≤ MAX_CLOCK
  pub apart : AreDistinct (targets node.state.edges)
  pub edges : HaveLinks n count (targets node.state.edges)
  pub next_apart : (d : Definition) → slice_get node.state.left 0 ≡ Some d → AreDistinct (dependencies d)
  pub next_edges : (d : Definition) → slice_get node.state.left 0 ≡ Some d → HaveLinks n count (dependencies d)

-- the bytes say a frame that the node accepts from p
pub record Expected (p : ℕ) (node : NodeView) (bytes : List ℕ) : Type 0 where
  pub said : Frame Value
  pub message : IsMessage bytes said
  pub accepted : Accepts (rank_in node.roster) (typed_in node.roster) p said node.state

-- the first frame in the link to n from p, if there is one, is such
abbrev pub Expects : ℕ → ℕ → NodeView → List (List (List ℕ)) → Type 0
Expects n p node links = (bytes : List ℕ) (rest : List (List ℕ)) → waits links n p ≡ bytes ∷ rest → Expected p node bytes

-- a frame taken: both links are there, and the first frame is accepted
pub record CanTake (n p : ℕ) (node : NodeView) (links : List (List (List ℕ))) : Type 0 where
  pub ready : IsReady n node
  pub sender : p < MAX_SERVICES
  pub from : place_of n p < length links
  pub to : place_of p n < length links
  pub expects : Expects n p node links

-- where something was taken, it was the first frame in the link; else the link is empty, and nothing happened
pub record TakesFirst (n p : ℕ) (old new : NodeView) (links links' : List (List (List ℕ))) : Type 0 where
  pub bytes : List ℕ
  pub rest : List (List ℕ)
  pub first : waits links n p ≡ bytes ∷ rest
  pub said : Frame Value
  pub message : IsMessage bytes said
  pub acts : NodeActs n (after_taking p said old.state) (took_log p said old.state) old new links links'

pub record TakesNone (n p : ℕ) (old new : NodeView) (links links' : List (List (List ℕ))) : Type 0 where
  pub none : waits links n p ≡ []
  pub same_node : new ≡ old
  pub same_links : links' ≡ links

abbrev pub TakesIn : ℕ → ℕ → NodeView → NodeView → List (List (List ℕ)) → List (List (List ℕ)) → Bool → Type 0
TakesIn n p old new links links' true = TakesFirst n p old new links links'
TakesIn n p old new links links' false = TakesNone n p old new links links'

-- and the other nodes are as they were
pub record TakesAt (n p : ℕ) (old new : List NodeView) (links links' : List (List (List ℕ))) (some : Bool) : Type 0 where
  pub others : (k : ℕ) → k ≢ n → service_at new k ≡ service_at old k
  pub count : length new ≡ length old
  pub node : TakesIn n p (service_at old n) (service_at new n) links links' some
