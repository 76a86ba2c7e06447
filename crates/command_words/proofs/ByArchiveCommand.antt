-- The ways in which words stand for a command with an archive.
use Rattle.std.proofs.Common.{◌≡◌, ◌∙◌, ◌-◌, ◌≤◌, ℕ, ap, sym, arith, drop, length, map, take, Bool, true, false, List, [], ◌∷◌, Option, Some, None, refl, subst, codes}
use Rattle.std.specs.Prelude.{nat_eq, slice_index_or, if◌then◌else◌}
use Rattle.std.specs.Cmp.Lexicographic.{pointwise}
use Rattle.std.proofs.lemmas.List.{take_rest}
use Rattle.command_words.specs.declared.kept_command.KeptCommand.{KeptCommand}
use Rattle.command_words.specs.declared.kept_command.KeptCommand.TheVariants.{Run, Step, History}
use Rattle.command_words.specs.KeptWords.{archive_command_named, archive_command_of, run_flags_of, running, stepping}
use Rattle.command_words.proofs.ByCommand.{other_word}
use Rattle.command_words.proofs.ItemWords.{Flags}

-- a name that is neither of two stands for a command that no words follow
pub other_archive_names : {W : Type 0} (bytes : W → List ℕ) (words : List W) (first : W) (name : List ℕ)
    → 1 ≤ length words → first ≡ slice_index_or words 0 first → name ≡ bytes first
    → (name ≡ codes "run" → ⊥) → (name ≡ codes "step" → ⊥)
    → archive_command_named name (map bytes (take (length words - 1) (drop 1 words))) ≡ archive_command_of (map bytes words)
other_archive_names bytes [] first name some stands is run step = absurd (omega (arith, some))
other_archive_names {W} bytes (word ∷ words) first name some stands is run step =
    let behind : take (length (word ∷ words) - 1) words ≡ words = take_rest (word ∷ words) 1 in
    ap (λ (rest : List W). archive_command_named name (map bytes rest)) behind
    ∙ sym by_name
    ∙ ap (λ (name : List ℕ). archive_command_of (name ∷ map bytes words)) (is ∙ ap bytes stands)
  where
    by_name : archive_command_of (name ∷ map bytes words) ≡ archive_command_named name (map bytes words)
    by_name = rw (other_word name (codes "run") run, other_word name (codes "step") step) refl

module _ (P : KeptCommand → Type 0) (first : List ℕ) (behind : List (List ℕ))
    (on_run : (flags : Flags) → run_flags_of behind ≡ Some flags → P (Run flags.0 flags.1))
    (on_step : (flags : Flags) → run_flags_of behind ≡ Some flags → P (Step flags.0 flags.1))
    (on_history : behind ≡ [] → P History) where
  run_case : (o : Option Flags) → run_flags_of behind ≡ o → (command : KeptCommand) → running o ≡ Some command → P command
  run_case None h command e = absurd (cc e)
  run_case (Some flags) h command e = subst P (let same : Run flags.0 flags.1 ≡ command = cc e in same) (on_run flags h)

  step_case : (o : Option Flags) → run_flags_of behind ≡ o → (command : KeptCommand) → stepping o ≡ Some command → P command
  step_case None h command e = absurd (cc e)
  step_case (Some flags) h command e = subst P (let same : Step flags.0 flags.1 ≡ command = cc e in same) (on_step flags h)

  name_case : (b : Bool) → behind ≡ [] → (command : KeptCommand) → (if b then Some History else None) ≡ Some command → P command
  name_case true h command e = subst P (let same : History ≡ command = cc e in same) (on_history h)
  name_case false h command e = absurd (cc e)

  alone_case : (words : List (List ℕ)) → behind ≡ words → (command : KeptCommand) → archive_command_named first words ≡ Some command → P command
  alone_case [] h command e = name_case (pointwise nat_eq first (codes "history")) h command e
  alone_case (word ∷ words) h command e = absurd (cc e)

  any_case : (b1 b2 : Bool) (command : KeptCommand)
      → (if b1 then running (run_flags_of behind) else (if b2 then stepping (run_flags_of behind) else archive_command_named first behind)) ≡ Some command
      → P command
  any_case true b2 command e = run_case (run_flags_of behind) refl command e
  any_case false true command e = step_case (run_flags_of behind) refl command e
  any_case false false command e = alone_case behind refl command e

  -- what holds of each command with an archive that a name and the words behind it stand for
  pub by_archive_command : (command : KeptCommand) → archive_command_of (first ∷ behind) ≡ Some command → P command
  by_archive_command command e = any_case (pointwise nat_eq first (codes "run")) (pointwise nat_eq first (codes "step")) command e
