-- What the loops of a drain make of a network, as schedules of its machines.
use Rattle.std.specs.Prelude.{◌≡◌, ℕ, zero, suc, Bool, true, false, List, [], ◌∷◌, ◌++◌}
use Rattle.propagation.specs.Logs.{Entry as TheEntry, Leg}
use Rattle.propagation.specs.Notes.{Note}
use Rattle.propagation.specs.Notes.Note.{did, took, computed, advanced, empty, lags, still, idle}
use Rattle.propagation.specs.Stamps.{Stamps}
use Rattle.service_machine.specs.Draining.{times, flights}
use Rattle.service_machine.specs.Systems.{System, Event, run}
use Rattle.service_machine.specs.Systems.Event.{Take as TheTake}
use Rattle.svc_graph.specs.declared.definition.Definition.{Definition}
use Rattle.svc_graph.specs.History.{dependencies, meaning_of}
use Rattle.svc_value.specs.declared.value.Value.{Value}
use Rattle.settle_core.specs.Events.{Happens}
use Rattle.settle_core.specs.Legs.{InLeg}
use Rattle.settle_core.specs.Net.{NetworkView, system_of}
use Rattle.settle_core.specs.Running.{Goes}

-- whether the event did something: a change, a frame taken, or a turn that took a value or computed
abbrev pub did_something : Note → Bool
did_something did = true
did_something took = true
did_something computed = true
did_something advanced = true
did_something (empty p) = false
did_something (lags p key) = false
did_something still = false
did_something idle = false

-- the event happened, and this says whether it did something
pub record Steps (e : Event) (busy : Bool) (old new : NetworkView) : Type 0 where
  pub note : Note
  pub busy_is : busy ≡ did_something note
  pub happened : Happens e note old new

-- the network is in the same leg, and what happened made of its system what `f` makes of it
pub record Ends (f : System Value Definition → System Value Definition) (old new : NetworkView) : Type 0 where
  pub goes : Goes old new
  pub ends : (g : Leg Value Definition) (low : ℕ → Stamps) (before : ℕ → List (TheEntry Value)) → InLeg old g low before → run dependencies meaning_of goes.events (system_of old.services before) ≡ f (system_of old.services before)

-- the numbers below this one, in order
abbrev pub numbers : ℕ → List ℕ
numbers zero = []
numbers (suc k) = numbers k ++ k ∷ []

-- the system after n took all that waits from p
abbrev pub taken_all : ℕ → ℕ → System Value Definition → System Value Definition
taken_all n p w = run dependencies meaning_of (times (flights w.logs n p) (TheTake n p)) w
