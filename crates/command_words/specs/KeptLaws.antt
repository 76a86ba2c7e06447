-- Laws of the words that stand for commands with an archive.
use Rattle.std.specs.Prelude.{◌≡◌, ◌⊎◌, ℕ, ◌≤◌, ◌||◌, true, List, Some, is_some}
use Rattle.command_words.specs.declared.command.Command.{Command}
use Rattle.command_words.specs.declared.keep_flags.KeepFlags.{KeepFlags}
use Rattle.command_words.specs.declared.kept_command.KeptCommand.TheVariants.{Plain, Run, Step}
use Rattle.command_words.specs.declared.resume.Resume.TheVariants.{At}
use Rattle.command_words.specs.declared.trace_flags.TraceFlags.{TraceFlags}
use Rattle.command_words.specs.KeptWords.{kept_command_of}
use Rattle.command_words.specs.Words.{command_of}
use Rattle.svc_value.specs.declared.limits.TheConstants.{MAX_LEGS}

-- words that stand for a command without an archive stand for the same command with one
abbrev pub PlainWordsStay : Type 0
PlainWordsStay = (words : List (List ℕ)) (command : Command) → command_of words ≡ Some command → kept_command_of words ≡ Some (Plain command)

-- a command that does not ask for the archive is one that its words stand for without an archive
abbrev pub PlainWordsAreRead : Type 0
PlainWordsAreRead = (words : List (List ℕ)) (command : Command) → kept_command_of words ≡ Some (Plain command) → command_of words ≡ Some command

-- the words stand for `run` or `step` with these flags
abbrev pub RunsWith : List (List ℕ) → TraceFlags → KeepFlags → Type 0
RunsWith words traces keeps = (kept_command_of words ≡ Some (Run traces keeps)) ⊎ (kept_command_of words ≡ Some (Step traces keeps))

-- such flags keep states or go on from one
abbrev pub ArchiveIsAsked : Type 0
ArchiveIsAsked = (words : List (List ℕ)) (traces : TraceFlags) (keeps : KeepFlags) → RunsWith words traces keeps → (keeps.keep || is_some keeps.resume) ≡ true

-- a leg that is named is from 1 to 1,000
abbrev pub LegsAreInRange : Type 0
LegsAreInRange = (words : List (List ℕ)) (traces : TraceFlags) (keeps : KeepFlags) (leg : ℕ) → RunsWith words traces keeps → keeps.resume ≡ Some (At leg) → (1 ≤ leg) × (leg ≤ MAX_LEGS)
