-- The commands with an archive as clap takes them.
use Rattle.std.specs.Prelude.{ℕ, Option, None, Some, codes}
use Rattle.clap.specs.Words.{App, Rule, Text, new_rule, with_rule}
use Rattle.clap.specs.declared.builder.ArgAction.TheVariants.{Set}
use Rattle.command_words.specs.declared.kept_command.KeptCommand.{KeptCommand}
use Rattle.command_words.specs.declared.kept_command.KeptCommand.TheVariants.{Plain, Run, Step, History}
use Rattle.command_words.specs.declared.resume.Resume.{Resume}
use Rattle.command_words.specs.declared.resume.Resume.TheVariants.{Last, At}
use Rattle.command_words.specs.Taken.{bare, flag, taken_by, with_flags}

-- an option, `--` and its name, with one text behind it
abbrev pub option : Text → Rule
option name = record (new_rule name) { long = Some name; action = Some Set }

-- a command with the flags of trace lines, those of the archive, and the number of a leg
abbrev pub with_keep_flags : Text → App
with_keep_flags name = with_rule (with_rule (with_rule (with_flags name) (flag (codes "keep"))) (flag (codes "resume"))) (option (codes "at"))

-- `run` with all its flags
abbrev pub kept_run_taken : App
kept_run_taken = with_keep_flags (codes "run")

-- `step` with all its flags
abbrev pub kept_step_taken : App
kept_step_taken = with_keep_flags (codes "step")

-- `history`, without arguments
abbrev pub history_taken : App
history_taken = bare (codes "history")

-- what clap is to take for a command
abbrev pub kept_taken_by : KeptCommand → App
kept_taken_by (Plain command) = taken_by command
kept_taken_by (Run traces keeps) = kept_run_taken
kept_taken_by (Step traces keeps) = kept_step_taken
kept_taken_by History = history_taken

-- the leg that is named, if one is
abbrev pub leg_resumed : Option Resume → Option ℕ
leg_resumed None = None
leg_resumed (Some Last) = None
leg_resumed (Some (At leg)) = Some leg
