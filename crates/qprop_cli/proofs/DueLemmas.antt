-- What was added is a beginning of the text due, and at the end all of it.
use Rattle.std.specs.Io.KnownBytes.{Appends}
use Rattle.std.proofs.Common.{◌≡◌, subst, sym, ℕ, List, [], map, Option, None, Some}
use Rattle.settle_core.specs.Net.{NetworkView}
use Rattle.settle_core.specs.Values.{value_of}
use Rattle.svc_graph.specs.Central.{AreCentral}
use Rattle.svc_graph.specs.History.{Row}
use Rattle.svc_plan.specs.declared.plan.Leg.{Leg}
use Rattle.svc_plan.specs.declared.plan.Mode.{Mode}
use Rattle.svc_plan.specs.declared.plan.Mode.TheVariants as mode
use Rattle.svc_plan.specs.Rows.{AreLegsAfter}
use Rattle.svc_value.specs.declared.value.Value.{Value}
use Rattle.trace_text.specs.Settled.{Settles}
use Rattle.trace_text.proofs.TracesSettle.{untraced_settles}
use Rattle.document_reading.specs.declared.refusal.Refusal.{Refusal}
use Rattle.document_reading.specs.Document.{HasLegs}
use Rattle.command_words.specs.declared.command.Command.{Command}
use Rattle.command_words.specs.declared.command.Command.TheVariants.{Run, Step, Check, Central, Frames, Make, Load}
use Rattle.command_words.specs.declared.size.Size.{Size}
use Rattle.command_words.specs.declared.trace_flags.TraceFlags.{TraceFlags}
use Rattle.command_words.specs.Words.{usage_line}
use Rattle.document_generator.specs.Generator.{generated}
use Rattle.qprop_cli.specs.Commands.Central.{CentralOutput}
use Rattle.qprop_cli.specs.Commands.Check.{accepted_line, CheckOutput}
use Rattle.qprop_cli.specs.Commands.Frames.{HasLines, FramesOutput}
use Rattle.qprop_cli.specs.Commands.Load.{load_line, LoadedOutput}
use Rattle.qprop_cli.specs.Commands.Step.{IsTracedText, SettledOutput, wanted}
use Rattle.qprop_cli.specs.Inside.Blocks.{AddsText, BeginsText, AddsTraced}
use Rattle.qprop_cli.specs.Inside.Input.{GivesLegs}
use Rattle.qprop_cli.specs.Inside.Running.{HasRunAll, SumsUp}
use Rattle.qprop_cli.specs.Outcome.{RefusesInput, WritesBlocks, IsDue, AddsDue}
use Rattle.qprop_cli.specs.Refusals.{refusal_line}
use Rattle.qprop_cli.specs.Streams.{ReadsUpTo, AddsBeginning}
use Rattle.qprop_cli.proofs.InputLemmas.{whole_read}

module _ (left_old left_new held_old held_new : Option (List ℕ)) where
  -- ---- words that are no command, and what is refused

  pub usage_due : AddsBeginning held_old held_new usage_line → AddsDue None left_old left_new held_old held_new
  usage_due begun = record { text = usage_line; due = IsDue.usage; begun = begun }

  pub refusal_due : (command : Option Command) (refusal : Refusal) → RefusesInput command left_old left_new refusal → AddsBeginning held_old held_new (refusal_line refusal) →
      AddsDue command left_old left_new held_old held_new
  refusal_due command refusal refuses begun = record { text = refusal_line refusal; due = IsDue.refusal refuses; begun = begun }

  -- ---- `run`, `step` and `central`

  -- the blocks of the legs that were run
  module _ (of : Mode) (command : Command) (flags : TraceFlags) (writes : (legs : List Leg) (text : List ℕ) → IsTracedText flags legs text → WritesBlocks command of legs text) where
    traced_due : (legs : List Leg) → GivesLegs of left_old left_new legs → BeginsText (IsTracedText flags) held_old held_new legs → AddsDue (Some command) left_old left_new held_old held_new
    traced_due legs gives added =
        record {
          text = added.text;
          due = IsDue.blocks gives.read added.run added.left gives.whole (subst (λ l. HasLegs of gives.read l) (sym added.all) gives.accepted) (writes added.run added.text added.is_text);
          begun = added.begun;
        }

  pub run_blocks_due : (flags : TraceFlags) (legs : List Leg) → GivesLegs mode.Plain left_old left_new legs → BeginsText (IsTracedText flags) held_old held_new legs →
      AddsDue (Some (Run flags)) left_old left_new held_old held_new
  run_blocks_due flags = traced_due mode.Plain (Run flags) flags (λ legs text is. WritesBlocks.by_run is)

  pub step_blocks_due : (flags : TraceFlags) (legs : List Leg) → GivesLegs mode.Step left_old left_new legs → BeginsText (IsTracedText flags) held_old held_new legs →
      AddsDue (Some (Step flags)) left_old left_new held_old held_new
  step_blocks_due flags = traced_due mode.Step (Step flags) flags (λ legs text is. WritesBlocks.by_step is)

  pub central_blocks_due : (legs : List Leg) → GivesLegs mode.Plain left_old left_new legs → BeginsText (Settles 0 []) held_old held_new legs → AddsDue (Some Central) left_old left_new held_old held_new
  central_blocks_due legs gives added =
      record {
        text = added.text;
        due = IsDue.blocks gives.read added.run added.left gives.whole (subst (λ l. HasLegs mode.Plain gives.read l) (sym added.all) gives.accepted) (WritesBlocks.by_central added.is_text);
        begun = added.begun;
      }

  pub settled_output : (of : Mode) (flags : TraceFlags) (legs : List Leg) (network : NetworkView) → GivesLegs of left_old left_new legs → AreLegsAfter [] legs → AddsTraced flags held_old held_new legs network →
      SettledOutput of flags left_old left_new held_old held_new (Some network)
  settled_output of flags legs network gives after run = record {
    read = gives.read;
    whole = gives.whole;
    legs = legs;
    accepted = gives.accepted;
    added = run.adds.text;
    gained = run.adds.added;
    settles = untraced_settles (wanted flags) 0 [] legs run.adds.is_text.traces run.adds.text tt after run.adds.is_text.lines;
    text = run.adds.is_text;
    network_done = run.done;
  }

  pub central_output : (legs : List Leg) → GivesLegs mode.Plain left_old left_new legs → AddsText (Settles 0 []) held_old held_new legs → CentralOutput left_old left_new held_old held_new
  central_output legs gives run =
      record { read = gives.read; whole = gives.whole; legs = legs; accepted = gives.accepted; added = run.text; gained = run.added; settles = run.is_text }

  -- ---- `check`

  pub counts_due : (legs : List Leg) → GivesLegs mode.Plain left_old left_new legs → AddsBeginning held_old held_new (accepted_line legs) →
      AddsDue (Some Check) left_old left_new held_old held_new
  counts_due legs gives begun = record { text = accepted_line legs; due = IsDue.counts gives.read legs gives.whole gives.accepted; begun = begun }

  pub check_output : (legs : List Leg) → GivesLegs mode.Plain left_old left_new legs → Appends held_old held_new (accepted_line legs) → CheckOutput left_old left_new held_old held_new
  check_output legs gives gained = record { read = gives.read; whole = gives.whole; legs = legs; accepted = gives.accepted; gained = gained }

  -- ---- `frames`, `make` and `load`

  pub lines_due : (read text : List ℕ) → ReadsUpTo 1048576 left_old left_new read → HasLines read text → AddsBeginning held_old held_new text →
      AddsDue (Some Frames) left_old left_new held_old held_new
  lines_due read text whole lines begun =
      record { text = text; due = IsDue.lines read (whole_read left_old left_new read lines.accepted.short whole) lines; begun = begun }

  pub frames_output : (read text : List ℕ) → ReadsUpTo 1048576 left_old left_new read → HasLines read text → Appends held_old held_new text → FramesOutput left_old left_new held_old held_new
  frames_output read text whole lines gained =
      record { read = read; whole = whole_read left_old left_new read lines.accepted.short whole; added = text; gained = gained; lines = lines }

  pub made_due : (size : Size) → AddsBeginning held_old held_new (generated size.services size.changes size.start) → AddsDue (Some (Make size)) left_old left_new held_old held_new
  made_due size begun = record { text = generated size.services size.changes size.start; due = IsDue.made size; begun = begun }

  pub loaded_due : (size : Size) (network : NetworkView) (text : List ℕ) → SumsUp size network text → AddsBeginning held_old held_new text → AddsDue (Some (Load size)) left_old left_new held_old held_new
  loaded_due size network text sums begun =
      record { text = text; due = subst (λ (t : List ℕ). IsDue left_old left_new (Some (Load size)) t) (sym sums.line) (IsDue.loaded size sums.legs sums.values sums.accepted sums.central); begun = begun }

-- the line of the run of a document that is made was added
pub loaded_output : (size : Size) (held_old held_new : Option (List ℕ)) (network : NetworkView) (text : List ℕ) → SumsUp size network text → Appends held_old held_new text → LoadedOutput size held_old held_new (Some network)
loaded_output size held_old held_new network text sums gained = record {
  legs = sums.legs;
  accepted = sums.accepted;
  values = sums.values;
  central = sums.central;
  gained = subst (λ (t : List ℕ). Appends held_old held_new t) sums.line gained;
  network_done = sums.done;
}

-- the network ran the document of this size, and these are its values
pub sums_up : (size : Size) (legs : List Leg) (values : List Value) (network : NetworkView) (text : List ℕ) → HasLegs mode.Plain (generated size.services size.changes size.start) legs →
    HasRunAll legs network → map Some values ≡ map value_of network.services → AreCentral network.rows values → text ≡ load_line legs values → SumsUp size network text
sums_up size legs values network text accepted run held central line = record {
  legs = legs;
  accepted = accepted;
  done = record { histories = run.histories; quiet = run.quiet; holds = record { values = values; held = held; central = central }; last = run.last };
  values = values;
  central = subst (λ (rows : List Row). AreCentral rows values) run.histories central;
  line = line;
}
