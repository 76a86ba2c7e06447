-- Words that are flags.
use Rattle.std.proofs.Common.{◌≡◌, ◌∙◌, ◌+◌, ◌≤◌, ◌&&◌, ℕ, ap, sym, subst, arith, Bool, true, false, true≢false, List, [], ◌∷◌, Option, Some, None, refl, codes, inl, inr, fold, ◌<◌, drop, length, map}
use Rattle.std.specs.Prelude.{◌⊎◌, ◌||◌, nat_eq, nat_le, cond, option_and_then, slice_index_or, if◌then◌else◌}
use Rattle.std.specs.List.{list_all}
use Rattle.std.specs.Cmp.Lexicographic.{pointwise, same_text}
use Rattle.std.proofs.lemmas.Bool.{leb-true, and_parts}
use Rattle.std.proofs.lemmas.List.{drop_more}
use Rattle.command_words.specs.declared.trace_flags.TraceFlags.{TraceFlags}
use Rattle.command_words.specs.Words.{flags_of, is_flag, with_flag}

abbrev pub Text : Type 0
Text = List ℕ

abbrev pub trace : Text
trace = codes "--trace"

abbrev pub sources : Text
sources = codes "--sources"

abbrev pub flags_with : Bool → Bool → TraceFlags
flags_with traces sources = record { trace = traces; sources = sources }

is_one : (word : Text) → is_flag word ≡ true → (word ≡ trace) ⊎ (word ≡ sources)
is_one word h = go (pointwise nat_eq word trace) (λ e. same_text word trace (sym e)) h
  where
    go : (b : Bool) → (b ≡ true → word ≡ trace) → (b || pointwise nat_eq word sources) ≡ true → (word ≡ trace) ⊎ (word ≡ sources)
    go true same h = inl (same refl)
    go false same h = inr (same_text word sources (sym h))

-- ---- how often a flag is there

-- one where the flag is there
abbrev pub once : Bool → ℕ
once is_there = cond is_there 1 0

-- how often it is there in all, by how often it was there before these words
abbrev pub in_all : Text → ℕ → List Text → ℕ
in_all flag before words = fold (λ before word. before + once (pointwise nat_eq word flag)) before words

no_less : (flag : Text) (before : ℕ) (words : List Text) → before ≤ in_all flag before words
no_less flag before [] = omega arith
no_less flag before (word ∷ words) = omega (arith, no_less flag (before + once (pointwise nat_eq word flag)) words)

one_at_least : (word : Text) → is_flag word ≡ true → 1 ≤ once (pointwise nat_eq word trace) + once (pointwise nat_eq word sources)
one_at_least word h = go (pointwise nat_eq word trace) (pointwise nat_eq word sources) h
  where
    go : (t s : Bool) → (t || s) ≡ true → 1 ≤ once t + once s
    go true s h = omega arith
    go false true h = omega arith
    go false false h = absurd (cc h)

-- ---- the words that are accepted

record AreAtMostOnce (words : List Text) : Type 0 where
  flags : list_all is_flag words ≡ true
  traces : in_all trace 0 words ≤ 1
  sources : in_all sources 0 words ≤ 1

guard_holds : (b : Bool) (x flags : TraceFlags) → (if b then Some x else None) ≡ Some flags → b ≡ true
guard_holds true x flags e = refl
guard_holds false x flags e = absurd (cc e)

at_most_once : (words : List Text) (flags : TraceFlags) → flags_of words ≡ Some flags → AreAtMostOnce words
at_most_once words flags e =
    let h = guard_holds _ _ flags e in
    let tests = (and_parts (list_all is_flag words) _ h).1 in
    record {
      flags = (and_parts (list_all is_flag words) _ h).0;
      traces = leb-true (in_all trace 0 words) 1 (and_parts (nat_le (in_all trace 0 words) 1) _ tests).0;
      sources = leb-true (in_all sources 0 words) 1 (and_parts (nat_le (in_all trace 0 words) 1) _ tests).1;
    }

-- no three of them
no_three : (a b c : Text) (rest : List Text) → AreAtMostOnce (a ∷ b ∷ c ∷ rest) → ⊥
no_three a b c rest h =
    let h1 = and_parts (is_flag a) _ h.flags in
    let h2 = and_parts (is_flag b) _ h1.1 in
    let h3 = and_parts (is_flag c) _ h2.1 in
    let least : (flag : Text) → 0 + once (pointwise nat_eq a flag) + once (pointwise nat_eq b flag) + once (pointwise nat_eq c flag) ≤ in_all flag 0 (a ∷ b ∷ c ∷ rest)
    = λ flag. no_less flag (0 + once (pointwise nat_eq a flag) + once (pointwise nat_eq b flag) + once (pointwise nat_eq c flag)) rest in
    omega (arith, least trace, least sources, h.traces, h.sources, one_at_least a h1.0, one_at_least b h2.0, one_at_least c h3.0)

module _ (P : List Text → TraceFlags → Type 0)
    (on_none : P [] (flags_with false false))
    (on_trace : P (trace ∷ []) (flags_with true false))
    (on_sources : P (sources ∷ []) (flags_with false true))
    (on_both : P (trace ∷ sources ∷ []) (flags_with true true))
    (on_both_turned : P (sources ∷ trace ∷ []) (flags_with true true)) where
  one : (word : Text) → (word ≡ trace) ⊎ (word ≡ sources) → (flags : TraceFlags) → flags_of (word ∷ []) ≡ Some flags → P (word ∷ []) flags
  one word is flags = elim is [
    | inl is ↦ subst (λ (w : Text). flags_of (w ∷ []) ≡ Some flags → P (w ∷ []) flags) (sym is)
        (λ e. subst (P (trace ∷ [])) (let same : flags_with true false ≡ flags = cc e in same) on_trace)
    | inr is ↦ subst (λ (w : Text). flags_of (w ∷ []) ≡ Some flags → P (w ∷ []) flags) (sym is)
        (λ e. subst (P (sources ∷ [])) (let same : flags_with false true ≡ flags = cc e in same) on_sources)
  ]

  behind_trace : (word : Text) → (word ≡ trace) ⊎ (word ≡ sources) → (flags : TraceFlags) → flags_of (trace ∷ word ∷ []) ≡ Some flags → P (trace ∷ word ∷ []) flags
  behind_trace word is flags = elim is [
    | inl is ↦ subst (λ (w : Text). flags_of (trace ∷ w ∷ []) ≡ Some flags → P (trace ∷ w ∷ []) flags) (sym is)
        (λ e. absurd (cc e))
    | inr is ↦ subst (λ (w : Text). flags_of (trace ∷ w ∷ []) ≡ Some flags → P (trace ∷ w ∷ []) flags) (sym is)
        (λ e. subst (P (trace ∷ sources ∷ [])) (let same : flags_with true true ≡ flags = cc e in same) on_both)
  ]

  behind_sources : (word : Text) → (word ≡ trace) ⊎ (word ≡ sources) → (flags : TraceFlags) → flags_of (sources ∷ word ∷ []) ≡ Some flags → P (sources ∷ word ∷ []) flags
  behind_sources word is flags = elim is [
    | inl is ↦ subst (λ (w : Text). flags_of (sources ∷ w ∷ []) ≡ Some flags → P (sources ∷ w ∷ []) flags) (sym is)
        (λ e. subst (P (sources ∷ trace ∷ [])) (let same : flags_with true true ≡ flags = cc e in same) on_both_turned)
    | inr is ↦ subst (λ (w : Text). flags_of (sources ∷ w ∷ []) ≡ Some flags → P (sources ∷ w ∷ []) flags) (sym is)
        (λ e. absurd (cc e))
  ]

  two : (a b : Text) → (a ≡ trace) ⊎ (a ≡ sources) → (b ≡ trace) ⊎ (b ≡ sources) → (flags : TraceFlags) → flags_of (a ∷ b ∷ []) ≡ Some flags → P (a ∷ b ∷ []) flags
  two a b is_a is_b flags = elim is_a [
    | inl is ↦ subst (λ (w : Text). flags_of (w ∷ b ∷ []) ≡ Some flags → P (w ∷ b ∷ []) flags) (sym is) (behind_trace b is_b flags)
    | inr is ↦ subst (λ (w : Text). flags_of (w ∷ b ∷ []) ≡ Some flags → P (w ∷ b ∷ []) flags) (sym is) (behind_sources b is_b flags)
  ]

  -- the flags are there in one of five ways
  pub by_flags : (words : List Text) (flags : TraceFlags) → flags_of words ≡ Some flags → P words flags
  by_flags [] flags e = subst (P []) (let same : flags_with false false ≡ flags = cc e in same) on_none
  by_flags (a ∷ []) flags e =
      let h = (at_most_once (a ∷ []) flags e).flags in
      one a (is_one a (and_parts (is_flag a) _ h).0) flags e
  by_flags (a ∷ b ∷ []) flags e =
      let h = and_parts (is_flag a) _ (at_most_once (a ∷ b ∷ []) flags e).flags in
      two a b (is_one a h.0) (is_one b (and_parts (is_flag b) _ h.1).0) flags e
  by_flags (a ∷ b ∷ c ∷ rest) flags e = absurd (no_three a b c rest (at_most_once (a ∷ b ∷ c ∷ rest) flags e))

-- ---- the flags of words that follow flags

-- the flags in all, by those that were there before these words
abbrev pub flags_from : TraceFlags → List Text → Option TraceFlags
flags_from before words =
    let traces = in_all trace (once before.trace) words in
    let sources = in_all sources (once before.sources) words in
    if list_all is_flag words && (nat_le traces 1 && nat_le sources 1)
    then Some (record { trace = nat_eq traces 1; sources = nat_eq sources 1 }) else None

none_behind : (x b y : Bool) (z : TraceFlags) → b ≡ false → (if x && (b && y) then Some z else None) ≡ None
none_behind x true y z h = absurd (true≢false h)
none_behind true false y z h = refl
none_behind false false y z h = refl

none_behind_second : (x y b : Bool) (z : TraceFlags) → b ≡ false → (if x && (y && b) then Some z else None) ≡ None
none_behind_second x y true z h = absurd (true≢false h)
none_behind_second true true false z h = refl
none_behind_second true false false z h = refl
none_behind_second false y false z h = refl

-- twice is too often
too_often : (flag : Text) (words : List Text) → nat_le (in_all flag 2 words) 1 ≡ false
too_often flag words = go (nat_le (in_all flag 2 words) 1) (leb-true (in_all flag 2 words) 1)
  where
    go : (b : Bool) → (b ≡ true → in_all flag 2 words ≤ 1) → b ≡ false
    go true least = absurd (omega (arith, least refl, no_less flag 2 words))
    go false least = refl

-- a word more
abbrev pub OneMore : TraceFlags → Text → List Text → Type 0
OneMore flags word rest = flags_from flags (word ∷ rest) ≡ option_and_then (λ more. flags_from more rest) (with_flag flags word)

one_trace : (flags : TraceFlags) (rest : List Text) → OneMore flags trace rest
one_trace flags rest = go flags.trace flags.sources
  where
    go : (t s : Bool) → OneMore (flags_with t s) trace rest
    go false true = refl
    go false false = refl
    go true true = none_behind (list_all is_flag rest) _ _ _ (too_often trace rest)
    go true false = none_behind (list_all is_flag rest) _ _ _ (too_often trace rest)

one_sources : (flags : TraceFlags) (rest : List Text) → OneMore flags sources rest
one_sources flags rest = go flags.trace flags.sources
  where
    go : (t s : Bool) → OneMore (flags_with t s) sources rest
    go true false = refl
    go false false = refl
    go true true = none_behind_second (list_all is_flag rest) _ _ _ (too_often sources rest)
    go false true = none_behind_second (list_all is_flag rest) _ _ _ (too_often sources rest)

pub one_more : (flags : TraceFlags) (word : Text) (rest : List Text) → OneMore flags word rest
one_more flags word rest = go (pointwise nat_eq word trace) (pointwise nat_eq word sources) refl refl
  where
    go : (t s : Bool) → pointwise nat_eq word trace ≡ t → pointwise nat_eq word sources ≡ s → OneMore flags word rest
    go true s is_trace is_sources = subst (λ (w : Text). OneMore flags w rest) (sym (same_text word trace (sym is_trace))) (one_trace flags rest)
    go false true is_trace is_sources = subst (λ (w : Text). OneMore flags w rest) (sym (same_text word sources (sym is_sources))) (one_sources flags rest)
    go false false is_trace is_sources = rw (is_trace, is_sources) refl

-- the same of the word at a place
pub word_taken : {W : Type 0} (bytes : W → Text) (words : List W) (i : ℕ) (word : W) (text : Text) (flags : TraceFlags) (o : Option TraceFlags)
    → i < length words → word ≡ slice_index_or words i word → text ≡ bytes word → with_flag flags text ≡ o
    → flags_from flags (map bytes (drop i words)) ≡ option_and_then (λ more. flags_from more (map bytes (drop (i + 1) words))) o
word_taken {W} bytes words i word text flags o less at is taken =
    ap (λ (rest : List W). flags_from flags (map bytes rest)) (drop_more words i word less ∙ ap (λ (w : W). w ∷ drop (i + 1) words) (sym at))
    ∙ one_more flags (bytes word) (map bytes (drop (i + 1) words))
    ∙ ap (λ (more : Option TraceFlags). option_and_then (λ more. flags_from more (map bytes (drop (i + 1) words))) more) (ap (with_flag flags) (sym is) ∙ taken)
