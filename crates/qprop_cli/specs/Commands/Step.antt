-- The commands `run` and `step`: the text that they add and the network that they leave.
use Rattle.std.specs.Prelude.{◌≡◌, ℕ, suc, ◌<◌, ◌≤◌, true, List, [], ◌∷◌, ◌++◌, map, length, reverse, Option, Some, None, IfSome}
use Rattle.std.specs.Io.KnownBytes.{Appends}
use Rattle.propagation.specs.History.{now, Reach}
use Rattle.propagation.specs.Laws.{changes, computations, values_under}
use Rattle.propagation.specs.Logs.{Emission, own, frames_sent}
use Rattle.propagation.specs.Logs.Entry.{Computed}
use Rattle.propagation.specs.Notes.{Step, Note, Noted, FollowsNotes}
use Rattle.propagation.specs.Notes.Step.{do_change, take_from, turn_of}
use Rattle.propagation.specs.Rules.{Legal, Quiet, Settled, TrueOf}
use Rattle.propagation.specs.Stamps.{Stamps, clock_of, keys, Rise}
use Rattle.propagation.specs.Lists.{Has}
use Rattle.settle_core.specs.Quiet.{is_quiet}
use Rattle.settle_core.specs.Legs.{HasLeg}
use Rattle.settle_core.specs.Net.{NetworkView, service_at}
use Rattle.settle_core.specs.Values.{value_of}
use Rattle.svc_graph.specs.Central.{AreCentral}
use Rattle.svc_graph.specs.History.{Row, history_of, theory}
use Rattle.svc_plan.specs.declared.plan.Leg.{Leg}
use Rattle.svc_plan.specs.declared.plan.Mode.{Mode}
use Rattle.svc_plan.specs.declared.plan.StepEvent.{StepEvent}
use Rattle.svc_plan.specs.declared.plan.StepEvent.TheVariants.{Do, Take, Turn}
use Rattle.svc_plan.specs.declared.plan.StepLine.{StepLine}
use Rattle.svc_plan.specs.Rows.{rows_after, rows_after_all}
use Rattle.node_core.specs.declared.entry.Entry.{Entry}
use Rattle.node_core.specs.View.{NodeView}
use Rattle.command_words.specs.declared.trace_flags.TraceFlags.{TraceFlags}
use Rattle.document_reading.specs.Document.{HasLegs}
use Rattle.svc_value.specs.declared.limits.TheConstants.{MAX_SERVICES}
use Rattle.svc_value.specs.declared.value.Value.{Value}
use Rattle.trace_text.specs.Blocks.{Flags, Trace}
use Rattle.trace_text.specs.Settled.{Settles}
use Rattle.trace_text.specs.Traces.{Traces}
use Rattle.trace_text.specs.Untraced.{untraced}
use Rattle.qprop_cli.specs.Streams.{ReadsWhole}

-- a step line, as one of the theory
abbrev pub as_step : StepEvent → Step
as_step (Do n) = do_change n
as_step (Take reader sender) = take_from reader sender
as_step (Turn n) = turn_of n

-- the last value of each service is the central evaluation of the present definitions
pub record HoldsCentral (network : NetworkView) : Type 0 where
  pub values : List Value
  pub held : map Some values ≡ map value_of network.services
  pub central : AreCentral network.rows values

-- The logs of the nodes are a legal family of the leg that began after these rows. Each value that a service computed is the central
-- evaluation of exactly the changes that its stamps name, and was computed for one of the leg's changes. The family follows the leg's
-- step lines with these notes, and nothing is in flight or left to do: the state is the opening of the next leg.
pub record HasRun (before : List Row) (leg : Leg) (network : NetworkView) : Type 0 where
  pub has : HasLeg network
  pub start : (n : ℕ) → has.leg.start n ≡ length (history_of before n)
  pub legal : Legal has.leg has.logs
  pub truth : (n : ℕ) (v : Value) (S : Stamps) (picks : List ℕ) → Has (has.logs n) (Computed v S picks) → TrueOf has.leg.book n (record { value = v; stamps = S }) × ((q : ℕ) → clock_of S q ≤ own has.leg q (has.logs q))
  pub work : (n : ℕ) → computations (has.logs n) ≤ changes has.leg MAX_SERVICES
  pub carried : (p n e : ℕ) → values_under e (frames_sent n (has.logs p)) ≤ suc (changes has.leg MAX_SERVICES)
  pub lines : Noted
  pub lines_are : map (λ line. line.0) lines ≡ reverse (map (λ step. as_step step.event) leg.steps)
  pub follows : FollowsNotes has.leg has.logs lines
  pub quiet : Quiet has.leg has.logs
  pub settled : Settled has.leg has.logs

-- of no leg it is the network without services; else it has run the last leg after the rows of those before
pub data EndsWith : List Leg → NetworkView → Type 0 where
  no_leg : EndsWith [] (record { rows = []; services = []; links = [] })
  last_leg : (before : List Leg) (leg : Leg) {network : NetworkView} → HasRun (rows_after_all [] before) leg network → EndsWith (before ++ leg ∷ []) network

-- the network has done these legs: its histories are theirs, nothing is left to do, each last value is central, and its logs are those
-- of the last leg
pub record HasDone (legs : List Leg) (network : NetworkView) : Type 0 where
  pub histories : network.rows ≡ rows_after_all [] legs
  pub quiet : is_quiet network ≡ true
  pub holds : HoldsCentral network
  pub last : EndsWith legs network

-- ---- the trace of a leg

-- which trace lines are wanted: the notes of step lines come with the logs
abbrev pub wanted : TraceFlags → Flags
wanted flags = record { notes = flags.trace; logs = flags.trace; sources = flags.sources }

-- each step line with its note: newest first, as the theory has them, and in their order, with the numbers of their lines
pub data AreNumbered : List StepLine → Noted → List (ℕ × Note) → Type 0 where
  none : AreNumbered [] [] []
  more : {steps : List StepLine} {lines : Noted} {notes : List (ℕ × Note)} (step : StepLine) (note : Note) → AreNumbered steps lines notes
      → AreNumbered (steps ++ step ∷ []) ((as_step step.event, note) ∷ lines) (notes ++ (step.line, note) ∷ [])

-- the keys of the last emission, if there is one
abbrev pub sources_of : Option (Emission Value) → List ℕ
sources_of None = []
sources_of (Some emission) = keys emission.stamps

-- the log of each node
abbrev pub logs_of : List NodeView → List (List Entry)
logs_of nodes = map {A = NodeView} (λ node. node.entries) nodes

-- the sources of each service
abbrev pub all_sources : List NodeView → List (List ℕ)
all_sources nodes = map {A = NodeView} (λ node. sources_of node.state.last) nodes

-- what a network says of its leg, with these notes
abbrev pub trace_of : List (ℕ × Note) → NetworkView → Trace
trace_of notes network = record { notes = notes; logs = logs_of network.services; sources = all_sources network.services }

-- these are, by rising number, the services that service n rests on by the present definitions, itself among them
pub record ListsReach (rows : List Row) (n : ℕ) (services : List ℕ) : Type 0 where
  pub rising : Rise 0 services
  pub each : (q : ℕ) → Has services q → Reach (theory rows) (now (theory rows)) n q
  pub all : (q : ℕ) → Reach (theory rows) (now (theory rows)) n q → Has services q

-- the trace is what this network says, which ran the leg that began after these rows: its notes are those that the family of logs
-- follows, and the sources of each service are what it rests on
pub record IsTraced (before : List Row) (leg : Leg) (network : NetworkView) (trace : Trace) : Type 0 where
  pub rows : network.rows ≡ rows_after before leg
  pub run : HasRun before leg network
  pub notes : List (ℕ × Note)
  pub numbered : AreNumbered leg.steps run.lines notes
  pub is : trace ≡ trace_of notes network
  pub reach : (n : ℕ) → n < length network.rows → ListsReach network.rows n (sources_of (service_at network.services n).state.last)

-- each of these legs was run after those before it, and has this trace
pub data AreTraced : List Row → List Leg → List Trace → Type 0 where
  none : {rows : List Row} → AreTraced rows [] []
  leg : {rows : List Row} {next : Leg} {legs : List Leg} {trace : Trace} {traces : List Trace} (network : NetworkView) → IsTraced rows next network trace
      → AreTraced (rows_after rows next) legs traces → AreTraced rows (next ∷ legs) (trace ∷ traces)

-- the text of these legs with the trace lines that are asked for
pub record IsTracedText (flags : TraceFlags) (legs : List Leg) (text : List ℕ) : Type 0 where
  pub traces : List Trace
  pub traced : AreTraced [] legs traces
  pub lines : Traces (wanted flags) 0 [] legs traces text

-- of no leg there is no trace; else the last of these has the logs of the network
pub data EndsTraces : List Trace → NetworkView → Type 0 where
  no_trace : {network : NetworkView} → EndsTraces [] network
  last_trace : (before : List Trace) (trace : Trace) {network : NetworkView} → trace.logs ≡ logs_of network.services → EndsTraces (before ++ trace ∷ []) network

-- ---- the end of the command

-- the network has done these legs, and the last of these traces is its own
pub record HasTraced (legs : List Leg) (traces : List Trace) (network : NetworkView) : Type 0 where
  pub done : HasDone legs network
  pub last : EndsTraces traces network

-- the source was read to its end, what it gave is a document in this mode with these legs, what was added is their text with the trace
-- lines that are asked for, which without these is their settled text, and the network has done them
pub record SettledOutput (mode : Mode) (flags : TraceFlags) (left_old left_new held_old held_new : Option (List ℕ)) (network : Option NetworkView) : Type 0 where
  pub read : List ℕ
  pub whole : ReadsWhole left_old left_new read
  pub legs : List Leg
  pub accepted : HasLegs mode read legs
  pub added : List ℕ
  pub gained : Appends held_old held_new added
  pub settles : Settles 0 [] legs (untraced added)
  pub text : IsTracedText flags legs added
  pub network_done : IfSome network (λ n. HasTraced legs text.traces n)
