-- What clap makes of the flags of `run` and `step`.
use Rattle.std.proofs.Common.{◌≡◌, ◌∙◌, ap, true, List, ◌∷◌, Some, refl, codes}
use Rattle.clap.specs.Words.{HasMatchesOf, Text, found_of, matches_of, one_of, one_text, takes}
use Rattle.clap.specs.declared.parser.matches.ArgMatches.{ArgMatches}
use Rattle.clap.proofs.OnLiterals.{clap_on_literals}
use Rattle.clap.proofs.WalkLemmas.{one_text-rows}
use Rattle.command_words.specs.declared.trace_flags.TraceFlags.{TraceFlags}
use Rattle.command_words.specs.Taken.{flag_text, with_flags}
use Rattle.command_words.specs.Words.{flags_of}
use Rattle.command_words.proofs.FlagWords.{by_flags}

module _ (name first : Text) where
  -- clap takes them
  pub flags_take : (behind : List Text) (flags : TraceFlags) → flags_of behind ≡ Some flags → takes (with_flags name) (first ∷ behind) ≡ true
  unfolding clap_on_literals
  flags_take = by_flags (λ behind flags. takes (with_flags name) (first ∷ behind) ≡ true) refl refl refl refl refl

  trace_kept : (behind : List Text) (flags : TraceFlags) → flags_of behind ≡ Some flags
      → one_of (codes "trace") (matches_of (with_flags name) (first ∷ behind)) ≡ Some (flag_text flags.trace)
  unfolding clap_on_literals
  trace_kept = by_flags (λ behind flags. one_of (codes "trace") (matches_of (with_flags name) (first ∷ behind)) ≡ Some (flag_text flags.trace)) refl refl refl refl refl

  sources_kept : (behind : List Text) (flags : TraceFlags) → flags_of behind ≡ Some flags
      → one_of (codes "sources") (matches_of (with_flags name) (first ∷ behind)) ≡ Some (flag_text flags.sources)
  unfolding clap_on_literals
  sources_kept = by_flags (λ behind flags. one_of (codes "sources") (matches_of (with_flags name) (first ∷ behind)) ≡ Some (flag_text flags.sources)) refl refl refl refl refl

  -- and finds each
  pub flags_found : (behind : List Text) (flags : TraceFlags) (m : ArgMatches) → flags_of behind ≡ Some flags → HasMatchesOf (with_flags name) (first ∷ behind) m
      → (one_text (found_of m) (codes "trace") ≡ Some (flag_text flags.trace)) × (one_text (found_of m) (codes "sources") ≡ Some (flag_text flags.sources))
  flags_found behind flags m are found = (
    one_text-rows (found_of m) (codes "trace") ∙ ap (one_of (codes "trace")) (found refl).0 ∙ trace_kept behind flags are,
    one_text-rows (found_of m) (codes "sources") ∙ ap (one_of (codes "sources")) (found refl).0 ∙ sources_kept behind flags are,
  )
