-- The words behind `run` and `step`, taken one by one.
use Rattle.std.specs.Prelude.{ℕ, ◌&&◌, Bool, true, false, not, List, [], ◌∷◌, Option, Some, None, nat_eq, codes, option_and_then, if◌then◌else◌}
use Rattle.std.specs.Cmp.Lexicographic.{pointwise}
use Rattle.command_words.specs.declared.asked.Asked.{Asked}
use Rattle.command_words.specs.declared.asked.LegAsked.{LegAsked}
use Rattle.command_words.specs.declared.asked.LegAsked.TheVariants.{No, Awaited, Leg}
use Rattle.command_words.specs.declared.keep_flags.KeepFlags.{KeepFlags}
use Rattle.command_words.specs.declared.resume.Resume.{Resume}
use Rattle.command_words.specs.declared.trace_flags.TraceFlags.{TraceFlags}
use Rattle.command_words.specs.KeptWords.{leg_of, resumed_at}
use Rattle.command_words.specs.Words.{number_value}

-- before the first word
abbrev pub nothing_asked : Asked
nothing_asked = record { traces = record { trace = false; sources = false }; keep = false; resume = false; leg = No }

-- no `--at` stood
abbrev pub is_no : LegAsked → Bool
is_no No = true
is_no leg = false

-- with the leg that was awaited
abbrev pub with_leg : Asked → Option ℕ → Option Asked
with_leg asked None = None
with_leg asked (Some leg) = Some (record asked { leg = Leg leg })

-- with a flag or `--at`, if it did not stand before
abbrev pub with_flag : Asked → List ℕ → Option Asked
with_flag asked word =
    if pointwise nat_eq word (codes "--trace") && not asked.traces.trace then Some (record asked { traces = record asked.traces { trace = true } })
    else (if pointwise nat_eq word (codes "--sources") && not asked.traces.sources then Some (record asked { traces = record asked.traces { sources = true } })
    else (if pointwise nat_eq word (codes "--keep") && not asked.keep then Some (record asked { keep = true })
    else (if pointwise nat_eq word (codes "--resume") && not asked.resume then Some (record asked { resume = true })
    else (if pointwise nat_eq word (codes "--at") && is_no asked.leg then Some (record asked { leg = Awaited })
    else None))))

-- one word more, by whether a leg is awaited
abbrev pub word_behind : LegAsked → Asked → List ℕ → Option Asked
word_behind Awaited asked word = with_leg asked (leg_of (number_value word))
word_behind leg asked word = with_flag asked word

-- with one word more
abbrev pub with_word : Asked → List ℕ → Option Asked
with_word asked word = word_behind asked.leg asked word

-- with all of these words
abbrev pub asked_by : Asked → List (List ℕ) → Option Asked
asked_by asked [] = Some asked
asked_by asked (word ∷ words) = option_and_then (λ more. asked_by more words) (with_word asked word)

-- the state to go on from, by whether one is asked for
abbrev pub resume_asked : Bool → Option ℕ → Option Resume
resume_asked false leg = None
resume_asked true leg = Some (resumed_at leg)

-- the flags of these parts
abbrev pub flags_from : TraceFlags → Bool → Bool → Option ℕ → Option (TraceFlags × KeepFlags)
flags_from traces keep resume leg = Some (traces, record { keep = keep; resume = resume_asked resume leg })

-- the flags, where no leg is awaited, none is there without `--resume`, and `--keep` or `--resume` is there
abbrev pub ended : Asked → Option (TraceFlags × KeepFlags)
ended asked = by_parts asked.traces asked.keep asked.resume asked.leg
  where
    by_parts : TraceFlags → Bool → Bool → LegAsked → Option (TraceFlags × KeepFlags)
    by_parts traces keep true No = flags_from traces keep true None
    by_parts traces keep true (Leg leg) = flags_from traces keep true (Some leg)
    by_parts traces true false No = flags_from traces true false None
    by_parts traces keep resume leg = None
