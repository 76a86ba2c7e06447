-- The words of a command where an archive is at hand.
use Rattle.std.specs.Prelude.{ℕ, ◌&&◌, ◌||◌, Bool, true, false, not, nat_le, List, [], ◌∷◌, Option, Some, None, is_some, nat_eq, codes, if◌then◌else◌}
use Rattle.std.specs.List.{list_any}
use Rattle.std.specs.Cmp.Lexicographic.{pointwise}
use Rattle.command_words.specs.declared.command.Command.{Command}
use Rattle.command_words.specs.declared.keep_flags.KeepFlags.{KeepFlags}
use Rattle.command_words.specs.declared.kept_command.KeptCommand.{KeptCommand}
use Rattle.command_words.specs.declared.kept_command.KeptCommand.TheVariants.{Plain, Run, Step, History}
use Rattle.command_words.specs.declared.resume.Resume.{Resume}
use Rattle.command_words.specs.declared.resume.Resume.TheVariants.{Last, At}
use Rattle.command_words.specs.declared.trace_flags.TraceFlags.{TraceFlags}
use Rattle.command_words.specs.Words.{command_of, number_value}
use Rattle.svc_value.specs.declared.limits.TheConstants.{MAX_LEGS}

-- ---- the items behind `run` and `step`

-- a flag, or `--at` and the number of a leg
pub data Item : Type 0 where
  trace : Item
  sources : Item
  keep : Item
  resume : Item
  at : ℕ → Item

-- the number of a leg: from 1 to 1,000
abbrev pub leg_of : Option ℕ → Option ℕ
leg_of None = None
leg_of (Some leg) = if nat_le 1 leg && nat_le leg MAX_LEGS then Some leg else None

-- the item `--at` with this leg, if it is one
abbrev pub leg_item : Option ℕ → Option Item
leg_item None = None
leg_item (Some leg) = Some (at leg)

-- the flag that a word is, if it is one
abbrev pub flag_item : List ℕ → Option Item
flag_item word =
    if pointwise nat_eq word (codes "--trace") then Some trace
    else (if pointwise nat_eq word (codes "--sources") then Some sources
    else (if pointwise nat_eq word (codes "--keep") then Some keep
    else (if pointwise nat_eq word (codes "--resume") then Some resume
    else None)))

-- an item before others, where all are items
abbrev pub with_item : Option Item → Option (List Item) → Option (List Item)
with_item (Some item) (Some items) = Some (item ∷ items)
with_item item items = None

-- the items that words are, one behind the other; none where some word is no part of one
abbrev pub items_of : List (List ℕ) → Option (List Item)
items_of [] = Some []
items_of (word ∷ []) = with_item (flag_item word) (Some [])
items_of (word ∷ next ∷ rest) =
    if pointwise nat_eq word (codes "--at") then with_item (leg_item (leg_of (number_value next))) (items_of rest)
    else with_item (flag_item word) (items_of (next ∷ rest))

-- ---- the flags that items are

-- both are the same flag, or both are `--at`
abbrev pub is_same : Item → Item → Bool
is_same trace trace = true
is_same sources sources = true
is_same keep keep = true
is_same resume resume = true
is_same (at leg) (at other) = true
is_same item other = false

-- the item is there
abbrev pub stands : Item → List Item → Bool
stands item items = list_any (is_same item) items

-- no item is there twice
abbrev pub no_two : List Item → Bool
no_two [] = true
no_two (item ∷ items) = not (stands item items) && no_two items

-- the leg behind `--at`, if it is there
abbrev pub leg_in : List Item → Option ℕ
leg_in [] = None
leg_in (at leg ∷ items) = Some leg
leg_in (item ∷ items) = leg_in items

-- none is there twice, `--at` only with `--resume`, and `--keep` or `--resume` is there
abbrev pub are_allowed : List Item → Bool
are_allowed items = no_two items && ((not (is_some (leg_in items)) || stands resume items) && (stands keep items || stands resume items))

-- the state of this leg, or of the last one where no leg is named
abbrev pub resumed_at : Option ℕ → Resume
resumed_at None = Last
resumed_at (Some leg) = At leg

-- the flags of items: which of them are there, and which leg is named
abbrev pub flags_in : List Item → TraceFlags × KeepFlags
flags_in items = (
  record { trace = stands trace items; sources = stands sources items },
  record { keep = stands keep items; resume = if stands resume items then Some (resumed_at (leg_in items)) else None },
)

-- the flags of words that are items, if these are allowed
abbrev pub allowed_flags : Option (List Item) → Option (TraceFlags × KeepFlags)
allowed_flags None = None
allowed_flags (Some items) = if are_allowed items then Some (flags_in items) else None

-- the flags that words are
abbrev pub run_flags_of : List (List ℕ) → Option (TraceFlags × KeepFlags)
run_flags_of words = allowed_flags (items_of words)

-- ---- commands

-- the command with an archive of this name that no words follow, if it is one
abbrev pub archive_command_named : List ℕ → List (List ℕ) → Option KeptCommand
archive_command_named name [] = if pointwise nat_eq name (codes "history") then Some History else None
archive_command_named name (word ∷ words) = None

-- the command `run` with these flags, if they are flags
abbrev pub running : Option (TraceFlags × KeepFlags) → Option KeptCommand
running None = None
running (Some flags) = Some (Run flags.0 flags.1)

-- the command `step` with these flags, if they are flags
abbrev pub stepping : Option (TraceFlags × KeepFlags) → Option KeptCommand
stepping None = None
stepping (Some flags) = Some (Step flags.0 flags.1)

-- the command with an archive that the words stand for
abbrev pub archive_command_of : List (List ℕ) → Option KeptCommand
archive_command_of [] = None
archive_command_of (first ∷ behind) =
    if pointwise nat_eq first (codes "run") then running (run_flags_of behind)
    else (if pointwise nat_eq first (codes "step") then stepping (run_flags_of behind)
    else archive_command_named first behind)

-- the first of two that is one
abbrev pub plain_or : Option Command → Option KeptCommand → Option KeptCommand
plain_or (Some command) other = Some (Plain command)
plain_or None other = other

-- the command that the words stand for where an archive is at hand: one without it, or else one with it; none where they are not accepted
abbrev pub kept_command_of : List (List ℕ) → Option KeptCommand
kept_command_of words = plain_or (command_of words) (archive_command_of words)
