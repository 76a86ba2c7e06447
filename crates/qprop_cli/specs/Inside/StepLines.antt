-- The step lines of a leg, as events of a network; and which legs have any.
use Rattle.std.specs.Prelude.{◌≡◌, ℕ, Bool, List, [], ◌++◌, length, All}
use Rattle.propagation.specs.Notes.{Note, Noted}
use Rattle.settle_core.specs.declared.event.Event.{Event}
use Rattle.settle_core.specs.declared.event.Event.TheVariants as event
use Rattle.settle_core.specs.Events.{AreDeclared, Happens, event_of}
use Rattle.settle_core.specs.Legs.{IsNoted}
use Rattle.settle_core.specs.Net.{NetworkView, start_of}
use Rattle.svc_graph.specs.History.{Row}
use Rattle.svc_plan.specs.declared.plan.Leg.{Leg}
use Rattle.svc_plan.specs.declared.plan.Mode.{Mode}
use Rattle.svc_plan.specs.declared.plan.Mode.TheVariants as mode
use Rattle.svc_plan.specs.declared.plan.StepEvent.{StepEvent}
use Rattle.svc_plan.specs.declared.plan.StepEvent.TheVariants.{Do, Take, Turn}
use Rattle.svc_plan.specs.declared.plan.StepLine.{StepLine}
use Rattle.trace_text.specs.Blocks.{if_wanted}
use Rattle.trace_text.specs.Named.{naming}
use Rattle.trace_text.specs.Notes.{IsNoteOf, step_line, steps_text}
use Rattle.qprop_cli.specs.Commands.Step.{AreNumbered, HasRun}

-- the leg has no step lines that a document in this mode has not: in a plain one none
abbrev pub FitsMode : Mode → Leg → Type 0
FitsMode mode.Plain leg = leg.steps ≡ []
FitsMode mode.Step leg = Unit {0}

-- so has each of these legs
abbrev pub AllFitMode : Mode → List Leg → Type 0
AllFitMode of legs = All (λ leg. FitsMode of leg) legs

-- the event of a network that a step line orders
abbrev pub ordered : StepEvent → Event
ordered (Do n) = event.Do n
ordered (Take reader sender) = event.Take reader sender
ordered (Turn n) = event.Turn n

-- the services of step lines are among the first `count`, which are declared
abbrev pub AreNamed : ℕ → List StepLine → Type 0
AreNamed count steps = All (λ step. AreDeclared count (ordered step.event)) steps

-- the event that the line orders happened, and the line of its note was appended to the text, if it is wanted
pub record Makes (is_wanted : Bool) (step : StepLine) (old new : NetworkView) (text_old text_new : List ℕ) : Type 0 where
  pub note : Note
  pub happened : Happens (event_of (ordered step.event)) note old new
  pub named : IsNoteOf (length old.rows) note
  pub text : text_new ≡ text_old ++ if_wanted is_wanted (step_line (naming old.rows) step.line note)

-- just these step lines led from the beginning of the leg to the new network, each with a note; the lines of these
-- notes were appended to the text, if they are wanted
pub record HasStepped (is_wanted : Bool) (steps : List StepLine) (old new : NetworkView) (text_old text_new : List ℕ) : Type 0 where
  pub rows : new.rows ≡ old.rows
  pub start : (n : ℕ) → start_of new n ≡ start_of old n
  pub lines : Noted
  pub noted : IsNoted new lines
  pub notes : List (ℕ × Note)
  pub numbered : AreNumbered steps lines notes
  pub named : All (λ step. IsNoteOf (length old.rows) step.1) notes
  pub text : text_new ≡ text_old ++ if_wanted is_wanted (steps_text (naming old.rows) notes)

-- this network ran the leg that began after these rows; the lines of the notes of its step lines were appended to the text, if they are
-- wanted
pub record RunsLeg (is_wanted : Bool) (before : List Row) (leg : Leg) (network : NetworkView) (text_old text_new : List ℕ) : Type 0 where
  pub run : HasRun before leg network
  pub notes : List (ℕ × Note)
  pub numbered : AreNumbered leg.steps run.lines notes
  pub named : All (λ step. IsNoteOf (length network.rows) step.1) notes
  pub text : text_new ≡ text_old ++ if_wanted is_wanted (steps_text (naming network.rows) notes)
