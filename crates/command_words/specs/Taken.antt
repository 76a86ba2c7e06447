-- The commands as clap takes them.
use Rattle.std.specs.Prelude.{ℕ, Bool, true, false, Option, None, Some, codes}
use Rattle.clap.specs.Words.{App, Rule, Text, new_app, new_rule, with_rule}
use Rattle.clap.specs.declared.builder.ArgAction.TheVariants.{Set, SetTrue}
use Rattle.command_words.specs.declared.command.Command.{Command}
use Rattle.command_words.specs.declared.command.Command.TheVariants.{Run, Step, Check, Central, Frames, Make, Load}
use Rattle.command_words.specs.Words.{number_value}

-- a command without arguments, and without a flag for help
abbrev pub bare : Text → App
bare name = record (new_app name) { top = record (new_app name).top { disable_help_flag = true } }

-- an argument that must stand at its place
abbrev pub place : Text → Rule
place name = record (new_rule name) { required = true; action = Some Set }

-- a flag, `--` and its name, that is there or not
abbrev pub flag : Text → Rule
flag name = record (new_rule name) { long = Some name; action = Some SetTrue }

-- a command with the three numbers of a size
abbrev pub with_size : Text → App
with_size name = with_rule (with_rule (with_rule (bare name) (place (codes "services"))) (place (codes "changes"))) (place (codes "start"))

-- a command with the two flags of trace lines
abbrev pub with_flags : Text → App
with_flags name = with_rule (with_rule (bare name) (flag (codes "trace"))) (flag (codes "sources"))

-- `run` with its two flags
abbrev pub run_taken : App
run_taken = with_flags (codes "run")

-- `step` with its two flags
abbrev pub step_taken : App
step_taken = with_flags (codes "step")

-- `check`, without arguments
abbrev pub check_taken : App
check_taken = bare (codes "check")

-- `central`, without arguments
abbrev pub central_taken : App
central_taken = bare (codes "central")

-- `frames`, without arguments
abbrev pub frames_taken : App
frames_taken = bare (codes "frames")

-- `make` with its three numbers
abbrev pub make_taken : App
make_taken = with_size (codes "make")

-- `load` with its three numbers
abbrev pub load_taken : App
load_taken = with_size (codes "load")

-- what clap is to take for a command
abbrev pub taken_by : Command → App
taken_by (Run flags) = run_taken
taken_by (Step flags) = step_taken
taken_by Check = check_taken
taken_by Central = central_taken
taken_by Frames = frames_taken
taken_by (Make size) = make_taken
taken_by (Load size) = load_taken

-- the number that a text is, if there is one
abbrev pub number_in : Option Text → Option ℕ
number_in None = None
number_in (Some text) = number_value text

-- the text under which clap keeps whether a flag is there
abbrev pub flag_text : Bool → Text
flag_text true = codes "true"
flag_text false = codes "false"
