-- clap takes the words that are accepted, and finds the numbers and the flags in them.
use Rattle.std.proofs.Common.{◌≡◌, ◌∙◌, ◌&&◌, ◌==◌, ℕ, ap, sym, subst, Bool, true, false, List, [], ◌∷◌, Option, Some, None, refl, codes}
use Rattle.std.specs.Prelude.{is_some, if◌then◌else◌}
use Rattle.std.specs.Char.{is_ascii_digit}
use Rattle.clap.specs.Words.{HasMatchesOf, Text, first_of, first_value, found_of, matches_of, one_text, takes}
use Rattle.clap.specs.declared.parser.matches.ArgMatches.{ArgMatches}
use Rattle.clap.proofs.OnLiterals.{clap_on_literals}
use Rattle.clap.proofs.WalkLemmas.{first_value-rows}
use Rattle.command_words.specs.declared.command.Command.{Command}
use Rattle.command_words.specs.declared.command.Command.TheVariants.{Run, Step, Check, Central, Frames, Make, Load}
use Rattle.command_words.specs.declared.size.Size.{Size}
use Rattle.command_words.specs.declared.trace_flags.TraceFlags.{TraceFlags}
use Rattle.command_words.specs.Taken.{flag_text, load_taken, make_taken, number_in, run_taken, step_taken, taken_by, with_size}
use Rattle.command_words.specs.Words.{command_of, number_behind, number_value, size_in, size_of}
use Rattle.command_words.proofs.ByCommand.{by_command}
use Rattle.command_words.proofs.PlainWords.{IsPlain, digit_is_plain, no_hyphen, numbers_take, services_found, changes_found, start_found}
use Rattle.command_words.proofs.TracedWords.{flags_found, flags_take}

-- ---- numbers are no flags

both_given : (t x : Bool) (o : Option ℕ) → is_some (if t && x then o else None) ≡ true → t ≡ true
both_given true x o h = refl
both_given false x o h = h

second_given : (t : Bool) (o : Option ℕ) → is_some (if t then None else o) ≡ true → is_some o ≡ true
second_given true o h = absurd (cc h)
second_given false o h = h

plain_digit : (digit : ℕ) (rest : Text) → is_some (number_behind 0 (digit ∷ rest)) ≡ true → IsPlain (digit ∷ rest)
plain_digit digit rest h = digit_is_plain digit rest (no_hyphen digit (both_given (is_ascii_digit digit) _ _ h))

pub plain_number : (word : Text) → is_some (number_value word) ≡ true → IsPlain word
plain_number [] h = absurd (cc h)
plain_number (digit ∷ []) h = plain_digit digit [] h
plain_number (first ∷ second ∷ rest) h = plain_digit first (second ∷ rest) (second_given (first == 48) _ h)

-- ---- the numbers of a size

record HasNumbers (s c n : Option ℕ) : Type 0 where
  services : is_some s ≡ true
  changes : is_some c ≡ true
  start : is_some n ≡ true

numbers : (s c n : Option ℕ) (size : Size) → size_of s c n ≡ Some size → HasNumbers s c n
numbers None c n size e = absurd (cc e)
numbers (Some s) None n size e = absurd (cc e)
numbers (Some s) (Some c) None size e = absurd (cc e)
numbers (Some s) (Some c) (Some n) size e = record { services = refl; changes = refl; start = refl }

module _ (name first : Text) where
  size_takes : (behind : List Text) (size : Size) → size_in behind ≡ Some size → takes (with_size name) (first ∷ behind) ≡ true
  size_takes [] size e = absurd (cc e)
  size_takes (a ∷ []) size e = absurd (cc e)
  size_takes (a ∷ b ∷ []) size e = absurd (cc e)
  size_takes (a ∷ b ∷ c ∷ []) size e =
      let h = numbers (number_value a) (number_value b) (number_value c) size e in
      numbers_take name a b c (plain_number a h.services) (plain_number b h.changes) (plain_number c h.start) first
  size_takes (a ∷ b ∷ c ∷ d ∷ rest) size e = absurd (cc e)

  -- the size that clap finds is the one that the words are
  pub size_found : (behind : List Text) (size : Size) (m : ArgMatches) → size_in behind ≡ Some size → HasMatchesOf (with_size name) (first ∷ behind) m
      → size_of (number_in (first_value (found_of m) (codes "services"))) (number_in (first_value (found_of m) (codes "changes"))) (number_in (first_value (found_of m) (codes "start"))) ≡ Some size
  size_found [] size m e found = absurd (cc e)
  size_found (a ∷ []) size m e found = absurd (cc e)
  size_found (a ∷ b ∷ []) size m e found = absurd (cc e)
  size_found (a ∷ b ∷ c ∷ []) size m e found =
      let h = numbers (number_value a) (number_value b) (number_value c) size e in
      let pa = plain_number a h.services in
      let pb = plain_number b h.changes in
      let pc = plain_number c h.start in
      let value : (id t : Text) → first_of id (matches_of (with_size name) (first ∷ a ∷ b ∷ c ∷ [])) ≡ Some t → first_value (found_of m) id ≡ Some t
      = λ id t is. first_value-rows (found_of m) id ∙ ap (first_of id) (found refl).0 ∙ is in
      rw (value (codes "services") a (services_found name a b c pa pb pc first), value (codes "changes") b (changes_found name a b c pa pb pc first), value (codes "start") c (start_found name a b c pa pb pc first)) e
  size_found (a ∷ b ∷ c ∷ d ∷ rest) size m e found = absurd (cc e)

-- ---- all words

bare_takes : (first : Text) (behind : List Text) (command : Command) → takes (taken_by command) (first ∷ []) ≡ true → behind ≡ [] → takes (taken_by command) (first ∷ behind) ≡ true
bare_takes first behind command h is = subst (λ (words : List Text). takes (taken_by command) (first ∷ words) ≡ true) (sym is) h

-- clap takes them
pub accepted_takes : (words : List Text) (command : Command) → command_of words ≡ Some command → takes (taken_by command) words ≡ true
unfolding clap_on_literals
accepted_takes [] command e = absurd (cc e)
accepted_takes (first ∷ behind) command e =
    by_command (λ command. takes (taken_by command) (first ∷ behind) ≡ true) first behind
    (flags_take (codes "run") first behind) (flags_take (codes "step") first behind) (size_takes (codes "make") first behind) (size_takes (codes "load") first behind)
    (bare_takes first behind Check refl) (bare_takes first behind Central refl) (bare_takes first behind Frames refl)
    command e

-- and it finds in them the flags of `run` and `step`,
abbrev pub AreFound : ArgMatches → TraceFlags → Type 0
AreFound m flags = (one_text (found_of m) (codes "trace") ≡ Some (flag_text flags.trace)) × (one_text (found_of m) (codes "sources") ≡ Some (flag_text flags.sources))

pub accepted_run : (words : List Text) (flags : TraceFlags) (m : ArgMatches) → command_of words ≡ Some (Run flags) → HasMatchesOf run_taken words m → AreFound m flags
accepted_run [] flags m e found = absurd (cc e)
accepted_run (first ∷ behind) flags m e found =
    by_command (λ command. command ≡ Run flags → AreFound m flags) first behind
    (λ given h is. flags_found (codes "run") first behind flags m (h ∙ ap Some (let same : given ≡ flags = cc is in same)) found)
    (λ given h is. absurd (cc is))
    (λ size h is. absurd (cc is)) (λ size h is. absurd (cc is))
    (λ h is. absurd (cc is)) (λ h is. absurd (cc is)) (λ h is. absurd (cc is))
    (Run flags) e refl

pub accepted_step : (words : List Text) (flags : TraceFlags) (m : ArgMatches) → command_of words ≡ Some (Step flags) → HasMatchesOf step_taken words m → AreFound m flags
accepted_step [] flags m e found = absurd (cc e)
accepted_step (first ∷ behind) flags m e found =
    by_command (λ command. command ≡ Step flags → AreFound m flags) first behind
    (λ given h is. absurd (cc is))
    (λ given h is. flags_found (codes "step") first behind flags m (h ∙ ap Some (let same : given ≡ flags = cc is in same)) found)
    (λ size h is. absurd (cc is)) (λ size h is. absurd (cc is))
    (λ h is. absurd (cc is)) (λ h is. absurd (cc is)) (λ h is. absurd (cc is))
    (Step flags) e refl

-- and the sizes of `make` and `load`
abbrev pub size_in_matches : ArgMatches → Option Size
size_in_matches m = size_of (number_in (first_value (found_of m) (codes "services"))) (number_in (first_value (found_of m) (codes "changes"))) (number_in (first_value (found_of m) (codes "start")))

pub accepted_make : (words : List Text) (size : Size) (m : ArgMatches) → command_of words ≡ Some (Make size) → HasMatchesOf make_taken words m → size_in_matches m ≡ Some size
accepted_make [] size m e found = absurd (cc e)
accepted_make (first ∷ behind) size m e found =
    by_command (λ command. command ≡ Make size → size_in_matches m ≡ Some size) first behind
    (λ flags h is. absurd (cc is)) (λ flags h is. absurd (cc is))
    (λ given h is. size_found (codes "make") first behind size m (h ∙ ap Some (let same : given ≡ size = cc is in same)) found)
    (λ given h is. absurd (cc is))
    (λ h is. absurd (cc is)) (λ h is. absurd (cc is)) (λ h is. absurd (cc is))
    (Make size) e refl

pub accepted_load : (words : List Text) (size : Size) (m : ArgMatches) → command_of words ≡ Some (Load size) → HasMatchesOf load_taken words m → size_in_matches m ≡ Some size
accepted_load [] size m e found = absurd (cc e)
accepted_load (first ∷ behind) size m e found =
    by_command (λ command. command ≡ Load size → size_in_matches m ≡ Some size) first behind
    (λ flags h is. absurd (cc is)) (λ flags h is. absurd (cc is))
    (λ given h is. absurd (cc is))
    (λ given h is. size_found (codes "load") first behind size m (h ∙ ap Some (let same : given ≡ size = cc is in same)) found)
    (λ h is. absurd (cc is)) (λ h is. absurd (cc is)) (λ h is. absurd (cc is))
    (Load size) e refl
