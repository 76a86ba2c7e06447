-- What every command promises of its end. The clauses of the top call say it in words of their own.
use Rattle.std.specs.Prelude.{◌≡◌, ◌≤◌, ◌⊎◌, ℕ, List, Option, Some, None, Result, Err, IfOk, IsSome}
use Rattle.std.specs.Io.KnownBytes.{Appends, Keeps}
use Rattle.settle_core.specs.Net.{NetworkView}
use Rattle.document_generator.specs.Generator.{generated}
use Rattle.svc_plan.specs.declared.plan.Mode.TheVariants as mode
use Rattle.document_reading.specs.declared.refusal.Refusal.{Refusal}
use Rattle.command_words.specs.declared.command.Command.{Command}
use Rattle.command_words.specs.declared.command.Command.TheVariants.{Run, Step, Check, Central, Frames, Make, Load}
use Rattle.svc_value.specs.Causes.{Rose}
use Rattle.qprop_cli.specs.declared.command_error.CommandError.{CommandError}
use Rattle.qprop_cli.specs.declared.command_error.CommandError.TheVariants.{Refused, ReadFault, WriteFault, OutOfMemory}
use Rattle.qprop_cli.specs.Commands.Central.{CentralOutput}
use Rattle.qprop_cli.specs.Commands.Check.{CheckOutput}
use Rattle.qprop_cli.specs.Commands.Frames.{FramesOutput}
use Rattle.qprop_cli.specs.Commands.Load.{LoadedOutput}
use Rattle.qprop_cli.specs.Commands.Step.{SettledOutput}
use Rattle.qprop_cli.specs.Outcome.{RefusesInput, AddsDue}

-- what holds when the command is done; it hands out this network
abbrev pub Performs : Command → Option (List ℕ) → Option (List ℕ) → Option (List ℕ) → Option (List ℕ) → Option NetworkView → Type 0
Performs (Run flags) left_old left_new held_old held_new network = SettledOutput mode.Plain flags left_old left_new held_old held_new network × IsSome network
Performs (Step flags) left_old left_new held_old held_new network = SettledOutput mode.Step flags left_old left_new held_old held_new network × IsSome network
Performs Check left_old left_new held_old held_new network = CheckOutput left_old left_new held_old held_new × (network ≡ None)
Performs Central left_old left_new held_old held_new network = CentralOutput left_old left_new held_old held_new × (network ≡ None)
Performs Frames left_old left_new held_old held_new network = FramesOutput left_old left_new held_old held_new × (network ≡ None)
Performs (Make size) left_old left_new held_old held_new network = Appends held_old held_new (generated size.services size.changes size.start) × (network ≡ None)
Performs (Load size) left_old left_new held_old held_new network = LoadedOutput size held_old held_new network × IsSome network

-- the command answers this: it is done; or what it read is refused, and nothing is written yet; or the source failed, and nothing is
-- written; or the sink failed, and a beginning of the text due is written; or memory ran out, and that or nothing is written
pub record Ends (command : Command) (left_old left_new : Option (List ℕ)) (source_old source_new : ℕ) (held_old held_new : Option (List ℕ)) (sink_old sink_new : ℕ)
    (result : Result (Option NetworkView) CommandError) : Type 0 where
  pub later : sink_old ≤ sink_new
  pub done : IfOk result (Performs command left_old left_new held_old held_new)
  pub refused : (refusal : Refusal) → result ≡ Err (Refused refusal) → RefusesInput (Some command) left_old left_new refusal
  pub unanswered : (refusal : Refusal) → result ≡ Err (Refused refusal) → Keeps held_old held_new
  pub read_fault : result ≡ Err ReadFault → Rose source_old source_new
  pub nothing : result ≡ Err ReadFault → Keeps held_old held_new
  pub write_fault : result ≡ Err WriteFault → Rose sink_old sink_new
  pub begun : result ≡ Err WriteFault → AddsDue (Some command) left_old left_new held_old held_new
  pub memory : result ≡ Err OutOfMemory → Keeps held_old held_new ⊎ AddsDue (Some command) left_old left_new held_old held_new
