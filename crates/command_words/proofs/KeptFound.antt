-- clap takes the words of commands with an archive, and finds the flags and the leg in them.
use Rattle.std.proofs.Common.{◌≡◌, ◌∙◌, ◌&&◌, ◌||◌, ap, ap₂, sym, subst, ℕ, Bool, true, false, List, [], ◌∷◌, Option, Some, None, refl, codes, inl, inr}
use Rattle.std.specs.Prelude.{◌⊎◌, is_some, not, if◌then◌else◌}
use Rattle.std.specs.List.{list_all}
use Rattle.std.proofs.lemmas.Bool.{and_parts}
use Rattle.clap.specs.Simple.{built, entered}
use Rattle.clap.specs.Takes.{default_passes, entered_passes, is_valid, settle_passes}
use Rattle.clap.specs.Walk.{Walk, finished}
use Rattle.clap.specs.Words.{HasMatchesOf, Text, first_of, first_value, found_of, matches_of, one_of, one_text, takes}
use Rattle.clap.specs.declared.parser.matches.ArgMatches.{ArgMatches}
use Rattle.clap.proofs.OnLiterals.{clap_on_literals}
use Rattle.clap.proofs.WalkLemmas.{first_value-rows, one_text-rows}
use Rattle.command_words.specs.declared.command.Command.{Command}
use Rattle.command_words.specs.declared.keep_flags.KeepFlags.{KeepFlags}
use Rattle.command_words.specs.declared.kept_command.KeptCommand.{KeptCommand}
use Rattle.command_words.specs.declared.kept_command.KeptCommand.TheVariants.{Plain, Run, Step, History}
use Rattle.command_words.specs.declared.trace_flags.TraceFlags.{TraceFlags}
use Rattle.command_words.specs.KeptTaken.{kept_run_taken, kept_step_taken, kept_taken_by, leg_resumed, with_keep_flags}
use Rattle.command_words.specs.KeptWords.{Item, allowed_flags, are_allowed, archive_command_of, flags_in, items_of, leg_in, no_two, resumed_at, run_flags_of, stands}
use Rattle.command_words.specs.KeptWords.Item.{resume}
use Rattle.command_words.specs.Taken.{flag_text, number_in}
use Rattle.command_words.specs.WordByWord.{nothing_asked}
use Rattle.command_words.proofs.Accepted.{AreFound}
use Rattle.command_words.proofs.AllowedItems.{all_put, as_leg, asked_for, may_follow_nothing}
use Rattle.command_words.proofs.ByArchiveCommand.{by_archive_command}
use Rattle.command_words.proofs.DefaultRows.{Finds, all_found, number_of_leg, with_defaults}
use Rattle.command_words.proofs.ItemWords.{Flags}
use Rattle.command_words.proofs.KeptWalk.{Walks, all_rows, all_walk, kept_shape}

-- ---- flags are allowed items

pub record AreItems (words : List Text) (flags : Flags) : Type 0 where
  pub items : List Item
  pub are : items_of words ≡ Some items
  pub allowed : are_allowed items ≡ true
  pub flags_are : flags_in items ≡ flags

pub items_behind : (words : List Text) (flags : Flags) → run_flags_of words ≡ Some flags → AreItems words flags
items_behind words flags e = go (items_of words) refl e
  where
    within : (items : List Item) → items_of words ≡ Some items → (b : Bool) → are_allowed items ≡ b → (if b then Some (flags_in items) else None) ≡ Some flags → AreItems words flags
    within items are true allowed e = record { items = items; are = are; allowed = allowed; flags_are = (let same : flags_in items ≡ flags = cc e in same) }
    within items are false allowed e = absurd (cc e)

    go : (o : Option (List Item)) → items_of words ≡ o → allowed_flags o ≡ Some flags → AreItems words flags
    go None are e = absurd (cc e)
    go (Some items) are e = within items are (are_allowed items) refl e

-- a leg is named only where a state is loaded
pub resumed_leg : (items : List Item) → are_allowed items ≡ true → leg_in items ≡ leg_resumed (flags_in items).1.resume
resumed_leg items h = go (leg_in items) (stands resume items) (and_parts (not (is_some (leg_in items)) || stands resume items) _ (and_parts (no_two items) _ h).1).0
  where
    go : (o : Option ℕ) (b : Bool) → (not (is_some o) || b) ≡ true → o ≡ leg_resumed (if b then Some (resumed_at o) else None)
    go None true h = refl
    go None false h = refl
    go (Some leg) true h = refl
    go (Some leg) false h = absurd (cc h)

resumes : (items : List Item) → is_some (flags_in items).1.resume ≡ stands resume items
resumes items = go (stands resume items)
  where
    go : (b : Bool) → is_some (if b then Some (resumed_at (leg_in items)) else None) ≡ b
    go true = refl
    go false = refl

leg_number : (o : Option ℕ) → number_of_leg (as_leg o) ≡ o
leg_number None = refl
leg_number (Some leg) = refl

-- ---- what clap makes of them

-- it finds the flags of the archive
pub record AreKeepsFound (m : ArgMatches) (keeps : KeepFlags) : Type 0 where
  pub keep : one_text (found_of m) (codes "keep") ≡ Some (flag_text keeps.keep)
  pub resume : one_text (found_of m) (codes "resume") ≡ Some (flag_text (is_some keeps.resume))
  pub leg : number_in (first_value (found_of m) (codes "at")) ≡ leg_resumed keeps.resume

module _ (name first : Text) where
  module _ (behind : List Text) (flags : Flags) (a : AreItems behind flags) where
    no_twice : no_two a.items ≡ true
    no_twice = (and_parts (no_two a.items) _ a.allowed).0

    walks : Walks name behind [] None (asked_for a.items)
    walks = subst (Walks name behind [] None) (all_put a.items no_twice)
        (all_walk name behind a.items a.are nothing_asked [] None refl
        (record { trace = refl; sources = refl; keep = refl; resume = refl; leg = refl }) (may_follow_nothing a.items no_twice))

    -- that the command takes the words, by where the walk ends and whether each word passed
    abbrev level : Walk → Bool → Bool
    level w passes = entered_passes (built (with_keep_flags name)) w.stopped && (passes && (settle_passes (kept_shape name).rules (kept_shape name).args_override_self w.held
        && (list_all default_passes (kept_shape name).rules && is_valid (kept_shape name) (finished (kept_shape name).rules w.held) (is_some (entered (built (with_keep_flags name)) w.stopped)))))

    words_taken : takes (with_keep_flags name) (first ∷ behind) ≡ true
    words_taken = ap₂ level walks.ends walks.passes ∙ ap (λ (p : Bool). p && true) walks.last_passes

    rows_kept : matches_of (with_keep_flags name) (first ∷ behind) ≡ with_defaults (all_rows name walks.end_rows walks.end_pending)
    rows_kept = ap (λ (w : Walk). finished (kept_shape name).rules w.held) walks.ends

    finds : Finds (matches_of (with_keep_flags name) (first ∷ behind)) (asked_for a.items)
    finds = subst (λ rows. Finds rows (asked_for a.items)) (sym rows_kept) (all_found (all_rows name walks.end_rows walks.end_pending) (asked_for a.items) walks.keeps)

    module _ (m : ArgMatches) (found : HasMatchesOf (with_keep_flags name) (first ∷ behind) m) where
      text_found : (id : Text) (text : Option Text) → one_of id (matches_of (with_keep_flags name) (first ∷ behind)) ≡ text → one_text (found_of m) id ≡ text
      text_found id text is = one_text-rows (found_of m) id ∙ ap (one_of id) (found refl).0 ∙ is

      traces_here : AreFound m flags.0
      traces_here = subst (λ (flags : Flags). AreFound m flags.0) a.flags_are (text_found (codes "trace") _ finds.trace, text_found (codes "sources") _ finds.sources)

      keeps_here : AreKeepsFound m flags.1
      keeps_here = subst (λ (flags : Flags). AreKeepsFound m flags.1) a.flags_are (record {
        keep = text_found (codes "keep") _ finds.keep;
        resume = text_found (codes "resume") _ finds.resume ∙ ap (λ (b : Bool). Some (flag_text b)) (sym (resumes a.items));
        leg = ap number_in (first_value-rows (found_of m) (codes "at") ∙ ap (first_of (codes "at")) (found refl).0)
            ∙ finds.leg ∙ leg_number (leg_in a.items) ∙ resumed_leg a.items a.allowed;
      })

  -- it takes the words,
  pub keep_flags_take : (behind : List Text) (flags : Flags) → run_flags_of behind ≡ Some flags → takes (with_keep_flags name) (first ∷ behind) ≡ true
  keep_flags_take behind flags e = words_taken behind flags (items_behind behind flags e)

  -- and finds all flags
  pub all_flags_found : (behind : List Text) (flags : Flags) (m : ArgMatches) → run_flags_of behind ≡ Some flags → HasMatchesOf (with_keep_flags name) (first ∷ behind) m
      → AreFound m flags.0 × AreKeepsFound m flags.1
  all_flags_found behind flags m e found =
      let a = items_behind behind flags e in
      (traces_here behind flags a m found, keeps_here behind flags a m found)

-- ---- all words

bare_takes : (first : Text) (behind : List Text) → behind ≡ [] → takes (kept_taken_by History) (first ∷ behind) ≡ true
unfolding clap_on_literals
bare_takes first behind is = subst (λ (words : List Text). takes (kept_taken_by History) (first ∷ words) ≡ true) (sym is) refl

pub archive_takes : (words : List Text) (command : KeptCommand) → archive_command_of words ≡ Some command → takes (kept_taken_by command) words ≡ true
archive_takes [] command e = absurd (cc e)
archive_takes (first ∷ behind) command e =
    by_archive_command (λ command. takes (kept_taken_by command) (first ∷ behind) ≡ true) first behind
    (keep_flags_take (codes "run") first behind) (keep_flags_take (codes "step") first behind) (bare_takes first behind)
    command e

abbrev pub AllFound : ArgMatches → TraceFlags → KeepFlags → Type 0
AllFound m traces keeps = AreFound m traces × AreKeepsFound m keeps

run_flags : (given : Flags) (traces : TraceFlags) (keeps : KeepFlags) → Run given.0 given.1 ≡ Run traces keeps → Some given ≡ Some (traces, keeps)
run_flags given traces keeps e =
    ap₂ (λ (traces : TraceFlags) (keeps : KeepFlags). Some (traces, keeps)) (let same : given.0 ≡ traces = cc e in same) (let same : given.1 ≡ keeps = cc e in same)

step_flags : (given : Flags) (traces : TraceFlags) (keeps : KeepFlags) → Step given.0 given.1 ≡ Step traces keeps → Some given ≡ Some (traces, keeps)
step_flags given traces keeps e =
    ap₂ (λ (traces : TraceFlags) (keeps : KeepFlags). Some (traces, keeps)) (let same : given.0 ≡ traces = cc e in same) (let same : given.1 ≡ keeps = cc e in same)

-- what holds of flags that words behind `run` or `step` are
pub by_run_flags : (P : TraceFlags → KeepFlags → Type 0) (words : List Text) (traces : TraceFlags) (keeps : KeepFlags)
    → (archive_command_of words ≡ Some (Run traces keeps)) ⊎ (archive_command_of words ≡ Some (Step traces keeps))
    → ((behind : List Text) → run_flags_of behind ≡ Some (traces, keeps) → P traces keeps) → P traces keeps
by_run_flags P [] traces keeps runs h = elim runs [
  | inl e ↦ absurd (cc e)
  | inr e ↦ absurd (cc e)
]
by_run_flags P (first ∷ behind) traces keeps runs h = elim runs [
  | inl e ↦
      by_archive_command (λ command. command ≡ Run traces keeps → P traces keeps) first behind
      (λ given are is. h behind (are ∙ run_flags given traces keeps is)) (λ given are is. absurd (cc is)) (λ are is. absurd (cc is))
      (Run traces keeps) e refl
  | inr e ↦
      by_archive_command (λ command. command ≡ Step traces keeps → P traces keeps) first behind
      (λ given are is. absurd (cc is)) (λ given are is. h behind (are ∙ step_flags given traces keeps is)) (λ are is. absurd (cc is))
      (Step traces keeps) e refl
]

pub archive_run : (words : List Text) (traces : TraceFlags) (keeps : KeepFlags) (m : ArgMatches) → archive_command_of words ≡ Some (Run traces keeps)
    → HasMatchesOf kept_run_taken words m → AllFound m traces keeps
archive_run [] traces keeps m e found = absurd (cc e)
archive_run (first ∷ behind) traces keeps m e found =
    by_archive_command (λ command. command ≡ Run traces keeps → AllFound m traces keeps) first behind
    (λ given h is. all_flags_found (codes "run") first behind (traces, keeps) m (h ∙ run_flags given traces keeps is) found)
    (λ given h is. absurd (cc is)) (λ h is. absurd (cc is))
    (Run traces keeps) e refl

pub archive_step : (words : List Text) (traces : TraceFlags) (keeps : KeepFlags) (m : ArgMatches) → archive_command_of words ≡ Some (Step traces keeps)
    → HasMatchesOf kept_step_taken words m → AllFound m traces keeps
archive_step [] traces keeps m e found = absurd (cc e)
archive_step (first ∷ behind) traces keeps m e found =
    by_archive_command (λ command. command ≡ Step traces keeps → AllFound m traces keeps) first behind
    (λ given h is. absurd (cc is))
    (λ given h is. all_flags_found (codes "step") first behind (traces, keeps) m (h ∙ step_flags given traces keeps is) found)
    (λ h is. absurd (cc is))
    (Step traces keeps) e refl

-- no command without an archive is one of them
pub never_plain : (words : List Text) (command : Command) → archive_command_of words ≡ Some (Plain command) → ⊥
never_plain [] command e = absurd (cc e)
never_plain (first ∷ behind) command e =
    by_archive_command (λ given. given ≡ Plain command → ⊥) first behind
    (λ flags h is. absurd (cc is)) (λ flags h is. absurd (cc is)) (λ h is. absurd (cc is))
    (Plain command) e refl
