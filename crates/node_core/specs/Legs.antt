-- What is known of the leg that a node is in: how it began.
use Rattle.std.specs.Prelude.{◌≡◌, ℕ, List, []}
use Rattle.propagation.specs.Lists.{Has}
use Rattle.service_machine.specs.States.{State}
use Rattle.service_machine.specs.Steps.{after_turning, turn_log, after_changing, done_log}
use Rattle.service_machine.specs.Openings.{new_state, opened_with, AtRest}
use Rattle.svc_graph.specs.Book.{IsDefinitionOf}
use Rattle.svc_graph.specs.History.{dependencies, meaning_of}
use Rattle.svc_graph.specs.declared.definition.Change.{Change}
use Rattle.svc_graph.specs.declared.definition.Definition.{Definition}
use Rattle.svc_graph.specs.declared.kind.Kind.{Kind}
use Rattle.svc_value.specs.declared.value.Value.{Value}
use Rattle.node_core.specs.Coming.{coming}
use Rattle.node_core.specs.Lives.{IsReached}
use Rattle.node_core.specs.Taking.{Takes}
use Rattle.node_core.specs.View.{NodeView, Grows}

-- the leg began with this state, and gave the node these changes and this roster
pub record OpensWith (opening : State Value Definition) (changes : List Change) (roster : List Kind) (s : NodeView) : Type 0 where
  pub reached : IsReached opening s
  pub changes_are : s.changes ≡ changes
  pub roster_is : s.roster ≡ roster

-- it is in the same leg
abbrev pub StaysInLeg : NodeView → NodeView → Type 0
StaysInLeg old new = (opening : State Value Definition) (changes : List Change) (roster : List Kind) → OpensWith opening changes roster old → OpensWith opening changes roster new

-- what `new` makes is in a leg without changes and without a roster
abbrev pub NewNodesOpen : Type 0
NewNodesOpen = (id : ℕ) (s : NodeView) → s ≡ record { state = new_state id; roster = []; changes = []; entries = []; outbox = []; handed = 0 } → OpensWith (new_state id) [] [] s

-- `open_leg` begins a leg with the changes and the roster that it is given
abbrev pub LegsOpen : Type 0
LegsOpen = (before : State Value Definition) (old new : NodeView) (changes : List Change) (roster : List Kind) → IsReached before old → old.state.left ≡ [] → old.entries ≡ [] →
    ((d : Definition) → Has (coming old.state.definition changes) d → IsDefinitionOf roster old.state.id d) →
    new ≡ record old { state = opened_with (coming old.state.definition changes) old.state; roster = roster; changes = changes } →
    OpensWith (opened_with (coming old.state.definition changes) old.state) changes roster new

-- `do_next` stays in it
abbrev pub ChangesStay : Type 0
ChangesStay = (old new : NodeView) → new.state ≡ after_changing dependencies old.state → Grows old new (done_log dependencies old.state) → StaysInLeg old new

-- `take` stays in it
abbrev pub TakesStay : Type 0
TakesStay = (p : ℕ) (bytes : List ℕ) (old new : NodeView) → Takes p bytes old new → StaysInLeg old new

-- `turn` stays in it
abbrev pub TurnsStay : Type 0
TurnsStay = (old new : NodeView) → new.state ≡ after_turning meaning_of old.state → Grows old new (turn_log meaning_of old.state) → StaysInLeg old new

-- frames that are handed over or given back leave it
abbrev pub HandingStays : Type 0
HandingStays = (old new : NodeView) (outbox : List (ℕ × List ℕ)) (handed : ℕ) → new ≡ record old { outbox = outbox; handed = handed } → StaysInLeg old new

-- `close_leg` begins one without changes, in which nothing is done
abbrev pub LegsClose : Type 0
LegsClose = (opening : State Value Definition) (changes : List Change) (roster : List Kind) (old new : NodeView) → OpensWith opening changes roster old → AtRest old.state →
    new ≡ record old { state = opened_with [] old.state; changes = []; entries = []; handed = 0 } → OpensWith (opened_with [] old.state) [] roster new
