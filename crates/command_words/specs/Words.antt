-- The words of a command.
use Rattle.std.specs.Prelude.{ℕ, ◌+◌, ◌-◌, ◌*◌, ◌≤◌, ◌==◌, ◌&&◌, ◌||◌, Bool, true, not, nat_le, List, [], ◌∷◌, Option, Some, None, nat_eq, codes, count_by, if◌then◌else◌}
use Rattle.std.specs.List.{list_all}
use Rattle.std.specs.Char.{is_ascii_digit}
use Rattle.std.specs.Cmp.Lexicographic.{pointwise}
use Rattle.command_words.specs.declared.command.Command.{Command}
use Rattle.command_words.specs.declared.command.Command.TheVariants.{Run, Step, Check, Central, Frames, Make, Load}
use Rattle.command_words.specs.declared.size.Size.{Size}
use Rattle.command_words.specs.declared.trace_flags.TraceFlags.{TraceFlags}
use Rattle.svc_value.specs.declared.limits.TheConstants.{MAX_CHANGES, MAX_SERVICES}

-- ---- numbers

-- the number that digits spell behind the number so far; no number of a command is above 65,536
abbrev pub number_behind : ℕ → List ℕ → Option ℕ
number_behind so_far [] = Some so_far
number_behind so_far (digit ∷ digits) =
    if is_ascii_digit digit && nat_le (so_far * 10 + (digit - 48)) 65536 then number_behind (so_far * 10 + (digit - 48)) digits else None

-- the number that a word is, in digits alone and without a leading zero; 0 itself is one
abbrev pub number_value : List ℕ → Option ℕ
number_value [] = None
number_value (digit ∷ []) = number_behind 0 (digit ∷ [])
number_value (first ∷ second ∷ digits) = if first == 48 then None else number_behind 0 (first ∷ second ∷ digits)

-- ---- sizes

-- from 2 to 64 services, from so many to 1,024 changes, and a start of at most 65,536
abbrev pub is_size : ℕ → ℕ → ℕ → Bool
is_size services changes start = nat_le 2 services && (nat_le services MAX_SERVICES && (nat_le services changes && (nat_le changes MAX_CHANGES && nat_le start 65536)))

-- the size of these numbers, if they are one
abbrev pub size_of : Option ℕ → Option ℕ → Option ℕ → Option Size
size_of (Some services) (Some changes) (Some start) =
    if is_size services changes start then Some (record { services = services; changes = changes; start = start }) else None
size_of services changes start = None

-- the same of a size
pub record IsSize (size : Size) : Type 0 where
  pub some : 2 ≤ size.services
  pub most : size.services ≤ MAX_SERVICES
  pub births : size.services ≤ size.changes
  pub changes : size.changes ≤ MAX_CHANGES
  pub start : size.start ≤ 65536

-- the size that three words are
abbrev pub size_in : List (List ℕ) → Option Size
size_in (services ∷ changes ∷ start ∷ []) = size_of (number_value services) (number_value changes) (number_value start)
size_in words = None

-- ---- flags

-- the word is a flag
abbrev pub is_flag : List ℕ → Bool
is_flag word = pointwise nat_eq word (codes "--trace") || pointwise nat_eq word (codes "--sources")

-- the flags with one more, if the word is a flag that is not among them
abbrev pub with_flag : TraceFlags → List ℕ → Option TraceFlags
with_flag flags word =
    if pointwise nat_eq word (codes "--trace") && not flags.trace then Some (record flags { trace = true })
    else (if pointwise nat_eq word (codes "--sources") && not flags.sources then Some (record flags { sources = true })
    else None)

-- how often a flag is among the words
abbrev pub how_often : List ℕ → List (List ℕ) → ℕ
how_often flag words = count_by (λ word. pointwise nat_eq word flag) words

-- the flags that words are: each word is a flag, and none is there twice
abbrev pub flags_of : List (List ℕ) → Option TraceFlags
flags_of words =
    let traces = how_often (codes "--trace") words in
    let sources = how_often (codes "--sources") words in
    if list_all is_flag words && (nat_le traces 1 && nat_le sources 1)
    then Some (record { trace = nat_eq traces 1; sources = nat_eq sources 1 }) else None

-- ---- commands

-- the command of this name that no words follow, if it is one
abbrev pub command_named : List ℕ → List (List ℕ) → Option Command
command_named name [] =
    if pointwise nat_eq name (codes "check") then Some Check
    else (if pointwise nat_eq name (codes "central") then Some Central
    else (if pointwise nat_eq name (codes "frames") then Some Frames
    else None))
command_named name (word ∷ words) = None

-- the command `run` with these flags, if they are flags
abbrev pub running : Option TraceFlags → Option Command
running None = None
running (Some flags) = Some (Run flags)

-- the command `step` with these flags, if they are flags
abbrev pub stepping : Option TraceFlags → Option Command
stepping None = None
stepping (Some flags) = Some (Step flags)

-- the command `make` of a size, if there is one
abbrev pub making : Option Size → Option Command
making None = None
making (Some size) = Some (Make size)

-- the command `load` of a size, if there is one
abbrev pub loading : Option Size → Option Command
loading None = None
loading (Some size) = Some (Load size)

-- the command that the words stand for; none where they are not accepted
abbrev pub command_of : List (List ℕ) → Option Command
command_of [] = None
command_of (first ∷ behind) =
    if pointwise nat_eq first (codes "run") then running (flags_of behind)
    else (if pointwise nat_eq first (codes "step") then stepping (flags_of behind)
    else (if pointwise nat_eq first (codes "make") then making (size_in behind)
    else (if pointwise nat_eq first (codes "load") then loading (size_in behind)
    else command_named first behind)))

-- a command that needs no threads: each but `run`
abbrev pub without_run : Option Command → Option Command
without_run (Some (Run flags)) = None
without_run command = command

-- the command that the words stand for where no threads are at hand
abbrev pub plain_command_of : List (List ℕ) → Option Command
plain_command_of words = without_run (command_of words)

-- the line that all other words are answered with
abbrev pub usage_line : List ℕ
usage_line = codes "usage: qprop run|step [--trace] [--sources] [--keep] [--resume [--at K]] | history | check | central | frames | make S C N | load S C N | judge\n"
