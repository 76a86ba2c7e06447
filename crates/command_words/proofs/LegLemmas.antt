-- A leg that words name is from 1 to 1,000.
use Rattle.std.proofs.Common.{◌≡◌, ◌∙◌, ◌≤◌, ◌&&◌, ap, subst, ℕ, Bool, true, false, List, Option, Some, None, refl, inl, inr}
use Rattle.std.specs.Prelude.{◌⊎◌, nat_le, if◌then◌else◌}
use Rattle.std.proofs.lemmas.Bool.{and_parts, leb-true}
use Rattle.command_words.specs.declared.command.Command.{Command}
use Rattle.command_words.specs.declared.keep_flags.KeepFlags.{KeepFlags}
use Rattle.command_words.specs.declared.kept_command.KeptCommand.{KeptCommand}
use Rattle.command_words.specs.declared.kept_command.KeptCommand.TheVariants.{Run, Step}
use Rattle.command_words.specs.declared.resume.Resume.TheVariants.{At}
use Rattle.command_words.specs.declared.trace_flags.TraceFlags.{TraceFlags}
use Rattle.command_words.specs.KeptLaws.{LegsAreInRange}
use Rattle.command_words.specs.KeptTaken.{leg_resumed}
use Rattle.command_words.specs.KeptWords.{Item, archive_command_of, items_of, leg_in, leg_of, plain_or}
use Rattle.command_words.specs.Words.{command_of, number_value}
use Rattle.command_words.proofs.ByItems.{by_items}
use Rattle.command_words.proofs.ItemWords.{Flags, Text}
use Rattle.command_words.proofs.KeptFound.{by_run_flags, items_behind, resumed_leg}

abbrev InRange : ℕ → Type 0
InRange leg = (1 ≤ leg) × (leg ≤ 1000)

leg_in_range : (o : Option ℕ) (leg : ℕ) → leg_of o ≡ Some leg → InRange leg
leg_in_range None leg e = absurd (cc e)
leg_in_range (Some number) leg e = go (nat_le 1 number && nat_le number 1000) (λ h. and_parts (nat_le 1 number) (nat_le number 1000) h) e
  where
    go : (b : Bool) → (b ≡ true → (nat_le 1 number ≡ true) × (nat_le number 1000 ≡ true)) → (if b then Some number else None) ≡ Some leg → InRange leg
    go true h e = subst InRange (let same : number ≡ leg = cc e in same) (leb-true 1 number (h refl).0, leb-true number 1000 (h refl).1)
    go false h e = absurd (cc e)

abbrev LegInRange : List Text → List Item → Type 0
LegInRange words items = (leg : ℕ) → leg_in items ≡ Some leg → InRange leg

named_in_range : (words : List Text) (items : List Item) → items_of words ≡ Some items → LegInRange words items
named_in_range = by_items LegInRange (λ leg e. absurd (cc e)) (λ rest items h. h) (λ rest items h. h) (λ rest items h. h) (λ rest items h. h)
    (λ text number rest items is h leg e. subst InRange (let same : number ≡ leg = cc e in same) (leg_in_range (number_value text) number is))

-- a command with an archive is none without one
with_archive : (o : Option Command) (other : Option KeptCommand) (traces : TraceFlags) (keeps : KeepFlags)
    → (plain_or o other ≡ Some (Run traces keeps)) ⊎ (plain_or o other ≡ Some (Step traces keeps)) → (other ≡ Some (Run traces keeps)) ⊎ (other ≡ Some (Step traces keeps))
with_archive None other traces keeps h = h
with_archive (Some command) other traces keeps h = elim h [
  | inl e ↦ absurd (cc e)
  | inr e ↦ absurd (cc e)
]

pub legs_in_range : LegsAreInRange
legs_in_range words traces keeps leg runs is =
    by_run_flags (λ traces keeps. keeps.resume ≡ Some (At leg) → InRange leg) words traces keeps (with_archive (command_of words) (archive_command_of words) traces keeps runs)
    (λ behind are is.
    let a = items_behind behind (traces, keeps) are in
    named_in_range behind a.items a.are leg (resumed_leg a.items a.allowed ∙ ap (λ (flags : Flags). leg_resumed flags.1.resume) a.flags_are ∙ ap leg_resumed is)) is
