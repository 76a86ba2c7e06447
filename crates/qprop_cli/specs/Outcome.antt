-- What a command accepts and refuses, and the text that is due. A new command has a row in each table.
use Rattle.std.specs.Prelude.{◌≡◌, ℕ, List, [], ◌++◌, Option, None, Some}
use Rattle.std.specs.Io.KnownBytes.{Appends}
use Rattle.svc_plan.specs.declared.plan.Leg.{Leg}
use Rattle.svc_plan.specs.declared.plan.Mode.{Mode}
use Rattle.svc_plan.specs.declared.plan.Mode.TheVariants as mode
use Rattle.document_reading.specs.declared.refusal.Refusal.{Refusal}
use Rattle.document_reading.specs.Document.{HasLegs, IsAccepted, IsRefusal}
use Rattle.document_generator.specs.Generator.{generated}
use Rattle.svc_graph.specs.Central.{AreCentral}
use Rattle.svc_plan.specs.Rows.{rows_after_all}
use Rattle.svc_value.specs.declared.value.Value.{Value}
use Rattle.trace_text.specs.Settled.{Settles}
use Rattle.wire_frame.specs.declared.frame.Frame.{Frame}
use Rattle.command_words.specs.declared.command.Command.{Command}
use Rattle.command_words.specs.declared.command.Command.TheVariants.{Run, Step, Check, Central, Frames, Make, Load}
use Rattle.command_words.specs.declared.size.Size.{Size}
use Rattle.command_words.specs.declared.trace_flags.TraceFlags.{TraceFlags}
use Rattle.qprop_cli.specs.Commands.Check.{accepted_line}
use Rattle.qprop_cli.specs.Commands.Frames.{HasFrames, HasLines, IsStreamRefusal}
use Rattle.qprop_cli.specs.Commands.Load.{load_line}
use Rattle.qprop_cli.specs.Commands.Step.{IsTracedText}
use Rattle.qprop_cli.specs.Refusals.{refusal_line}
use Rattle.qprop_cli.specs.Streams.{ReadsWhole, ReadsUpTo, AddsBeginning}
use Rattle.command_words.specs.Words.{usage_line}
use Rattle.svc_value.specs.declared.limits.TheConstants.{MAX_DOCUMENT_LEN}

-- what a command reads is accepted: a document, or a stream of frames; `make` and `load` read nothing
abbrev pub IsAcceptedBy : Command → List ℕ → Type 0
IsAcceptedBy (Run flags) bytes = IsAccepted mode.Plain bytes
IsAcceptedBy (Step flags) bytes = IsAccepted mode.Step bytes
IsAcceptedBy Check bytes = IsAccepted mode.Plain bytes
IsAcceptedBy Central bytes = IsAccepted mode.Plain bytes
IsAcceptedBy Frames bytes = (frames : List Frame) × HasFrames bytes frames
IsAcceptedBy (Make size) bytes = Unit {0}
IsAcceptedBy (Load size) bytes = Unit {0}

-- the refusal of what a command reads: of a document by `run`, `step`, `check` and `central`, and of a stream of frames by `frames`; `make` and
-- `load` read nothing
abbrev pub IsRefusedBy : Option Command → List ℕ → Refusal → Type 0
IsRefusedBy None bytes refusal = ⊥
IsRefusedBy (Some (Run flags)) bytes refusal = IsRefusal mode.Plain bytes refusal
IsRefusedBy (Some (Step flags)) bytes refusal = IsRefusal mode.Step bytes refusal
IsRefusedBy (Some Check) bytes refusal = IsRefusal mode.Plain bytes refusal
IsRefusedBy (Some Central) bytes refusal = IsRefusal mode.Plain bytes refusal
IsRefusedBy (Some Frames) bytes refusal = IsStreamRefusal bytes refusal
IsRefusedBy (Some (Make size)) bytes refusal = ⊥
IsRefusedBy (Some (Load size)) bytes refusal = ⊥

-- what the source gave, to its end or one byte past the most that is read of it, has this refusal, and so has all that it had
pub record Refuses (most : ℕ) (refused_by : List ℕ → Refusal → Type 0) (left_old left_new : Option (List ℕ)) (refusal : Refusal) : Type 0 where
  pub read : List ℕ
  pub whole : ReadsUpTo most left_old left_new read
  pub refused : refused_by read refusal
  pub all : (had : List ℕ) → left_old ≡ Some had → refused_by had refusal

-- what the source gave has this refusal by the command
abbrev pub RefusesInput : Option Command → Option (List ℕ) → Option (List ℕ) → Refusal → Type 0
RefusesInput command left_old left_new refusal = Refuses MAX_DOCUMENT_LEN (IsRefusedBy command) left_old left_new refusal

-- what the source gave is refused by the command, and the line of its refusal was added
pub record RefusedOutput (command : Option Command) (left_old left_new held_old held_new : Option (List ℕ)) (refusal : Refusal) : Type 0 where
  pub input : RefusesInput command left_old left_new refusal
  pub added : Appends held_old held_new (refusal_line refusal)

-- the commands that run the legs of a document by its network, which they hand out: `run`, `step` and `load`
abbrev pub RunsLegs : Option Command → Type 0
RunsLegs (Some (Run flags)) = Unit {0}
RunsLegs (Some (Step flags)) = Unit {0}
RunsLegs (Some (Load size)) = Unit {0}
RunsLegs command = ⊥

-- the command writes the blocks of a document in this mode, and for these legs this text
pub data WritesBlocks : Command → Mode → List Leg → List ℕ → Type 0 where
  by_run : {flags : TraceFlags} {legs : List Leg} {text : List ℕ} → IsTracedText flags legs text → WritesBlocks (Run flags) mode.Plain legs text
  by_step : {flags : TraceFlags} {legs : List Leg} {text : List ℕ} → IsTracedText flags legs text → WritesBlocks (Step flags) mode.Step legs text
  by_central : {legs : List Leg} {text : List ℕ} → Settles 0 [] legs text → WritesBlocks Central mode.Plain legs text

-- the text that is due: the usage line where the words are no command, else the refusal line, or the blocks of the legs that were run, or the line with
-- the counts, or the lines of all frames, or the document that is made, or the line that sums up its run
pub data IsDue (left_old left_new : Option (List ℕ)) : Option Command → List ℕ → Type 0 where
  usage : IsDue left_old left_new None usage_line
  refusal : {command : Option Command} {refusal : Refusal} → RefusesInput command left_old left_new refusal → IsDue left_old left_new command (refusal_line refusal)
  blocks : {text : List ℕ} {command : Command} {written : Mode} (read : List ℕ) (run left : List Leg) → ReadsWhole left_old left_new read
      → HasLegs written read (run ++ left) → WritesBlocks command written run text → IsDue left_old left_new (Some command) text
  counts : (read : List ℕ) (legs : List Leg) → ReadsWhole left_old left_new read → HasLegs mode.Plain read legs → IsDue left_old left_new (Some Check) (accepted_line legs)
  made : (size : Size) → IsDue left_old left_new (Some (Make size)) (generated size.services size.changes size.start)
  loaded : (size : Size) (legs : List Leg) (values : List Value) → HasLegs mode.Plain (generated size.services size.changes size.start) legs
      → AreCentral (rows_after_all [] legs) values → IsDue left_old left_new (Some (Load size)) (load_line legs values)
  lines : {text : List ℕ} (read : List ℕ) → ReadsWhole left_old left_new read → HasLines read text → IsDue left_old left_new (Some Frames) text

-- what was added is a beginning of the text due
pub record AddsDue (command : Option Command) (left_old left_new held_old held_new : Option (List ℕ)) : Type 0 where
  pub text : List ℕ
  pub due : IsDue left_old left_new command text
  pub begun : AddsBeginning held_old held_new text
