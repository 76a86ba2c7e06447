-- The ways in which words stand for a command.
use Rattle.std.proofs.Common.{◌≡◌, ◌∙◌, ◌-◌, ◌≤◌, ℕ, ap, sym, arith, drop, length, map, take, Bool, true, false, List, [], ◌∷◌, Option, Some, None, refl, subst, codes}
use Rattle.std.specs.Prelude.{nat_eq, slice_index_or, if◌then◌else◌}
use Rattle.std.specs.Cmp.Lexicographic.{pointwise, same_text}
use Rattle.std.proofs.lemmas.List.{take_rest}
use Rattle.command_words.specs.declared.command.Command.{Command}
use Rattle.command_words.specs.declared.command.Command.TheVariants.{Run, Step, Check, Central, Frames, Make, Load}
use Rattle.command_words.specs.declared.size.Size.{Size}
use Rattle.command_words.specs.declared.trace_flags.TraceFlags.{TraceFlags}
use Rattle.command_words.specs.Words.{command_named, command_of, flags_of, loading, making, running, size_in, stepping}

pub other_word : (word text : List ℕ) → (word ≡ text → ⊥) → pointwise nat_eq word text ≡ false
other_word word text differs = go (pointwise nat_eq word text) (λ e. same_text word text (sym e))
  where
    go : (b : Bool) → (b ≡ true → word ≡ text) → b ≡ false
    go true same = absurd (differs (same refl))
    go false same = refl

-- a name that is none of four stands for a command that no words follow
pub other_names : {W : Type 0} (bytes : W → List ℕ) (words : List W) (first : W) (name : List ℕ)
    → 1 ≤ length words → first ≡ slice_index_or words 0 first → name ≡ bytes first
    → (name ≡ codes "run" → ⊥) → (name ≡ codes "step" → ⊥) → (name ≡ codes "make" → ⊥) → (name ≡ codes "load" → ⊥)
    → command_named name (map bytes (take (length words - 1) (drop 1 words))) ≡ command_of (map bytes words)
other_names bytes [] first name some at is run step make load = absurd (omega (arith, some))
other_names {W} bytes (word ∷ words) first name some at is run step make load =
    let behind : take (length (word ∷ words) - 1) words ≡ words = take_rest (word ∷ words) 1 in
    ap (λ (rest : List W). command_named name (map bytes rest)) behind
    ∙ sym by_name
    ∙ ap (λ (name : List ℕ). command_of (name ∷ map bytes words)) (is ∙ ap bytes at)
  where
    by_name : command_of (name ∷ map bytes words) ≡ command_named name (map bytes words)
    by_name = rw (other_word name (codes "run") run, other_word name (codes "step") step, other_word name (codes "make") make, other_word name (codes "load") load) refl

module _ (P : Command → Type 0) (first : List ℕ) (behind : List (List ℕ))
    (on_run : (flags : TraceFlags) → flags_of behind ≡ Some flags → P (Run flags))
    (on_step : (flags : TraceFlags) → flags_of behind ≡ Some flags → P (Step flags))
    (on_make : (size : Size) → size_in behind ≡ Some size → P (Make size))
    (on_load : (size : Size) → size_in behind ≡ Some size → P (Load size))
    (on_check : behind ≡ [] → P Check) (on_central : behind ≡ [] → P Central) (on_frames : behind ≡ [] → P Frames) where
  run_case : (o : Option TraceFlags) → flags_of behind ≡ o → (command : Command) → running o ≡ Some command → P command
  run_case None h command e = absurd (cc e)
  run_case (Some flags) h command e = subst P (let same : Run flags ≡ command = cc e in same) (on_run flags h)

  step_case : (o : Option TraceFlags) → flags_of behind ≡ o → (command : Command) → stepping o ≡ Some command → P command
  step_case None h command e = absurd (cc e)
  step_case (Some flags) h command e = subst P (let same : Step flags ≡ command = cc e in same) (on_step flags h)

  make_case : (o : Option Size) → size_in behind ≡ o → (command : Command) → making o ≡ Some command → P command
  make_case None h command e = absurd (cc e)
  make_case (Some size) h command e = subst P (let same : Make size ≡ command = cc e in same) (on_make size h)

  load_case : (o : Option Size) → size_in behind ≡ o → (command : Command) → loading o ≡ Some command → P command
  load_case None h command e = absurd (cc e)
  load_case (Some size) h command e = subst P (let same : Load size ≡ command = cc e in same) (on_load size h)

  name_case : (b1 b2 b3 : Bool) → behind ≡ [] → (command : Command)
      → (if b1 then Some Check else (if b2 then Some Central else (if b3 then Some Frames else None))) ≡ Some command → P command
  name_case true b2 b3 h command e = subst P (let same : Check ≡ command = cc e in same) (on_check h)
  name_case false true b3 h command e = subst P (let same : Central ≡ command = cc e in same) (on_central h)
  name_case false false true h command e = subst P (let same : Frames ≡ command = cc e in same) (on_frames h)
  name_case false false false h command e = absurd (cc e)

  alone_case : (words : List (List ℕ)) → behind ≡ words → (command : Command) → command_named first words ≡ Some command → P command
  alone_case [] h command e = name_case (pointwise nat_eq first (codes "check")) (pointwise nat_eq first (codes "central")) (pointwise nat_eq first (codes "frames")) h command e
  alone_case (word ∷ words) h command e = absurd (cc e)

  any_case : (b1 b2 b3 b4 : Bool) (command : Command)
      → (if b1 then running (flags_of behind) else (if b2 then stepping (flags_of behind) else (if b3 then making (size_in behind) else (if b4 then loading (size_in behind)
      else command_named first behind)))) ≡ Some command
      → P command
  any_case true b2 b3 b4 command e = run_case (flags_of behind) refl command e
  any_case false true b3 b4 command e = step_case (flags_of behind) refl command e
  any_case false false true b4 command e = make_case (size_in behind) refl command e
  any_case false false false true command e = load_case (size_in behind) refl command e
  any_case false false false false command e = alone_case behind refl command e

  -- what holds of each command that a name and the words behind it stand for
  pub by_command : (command : Command) → command_of (first ∷ behind) ≡ Some command → P command
  by_command command e = any_case (pointwise nat_eq first (codes "run")) (pointwise nat_eq first (codes "step")) (pointwise nat_eq first (codes "make")) (pointwise nat_eq first (codes "load")) command e
