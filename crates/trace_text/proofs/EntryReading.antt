-- What an entry says, read.
use Rattle.std.proofs.Common.{◌≡◌, ◌≢◌, ◌∙◌, sym, ap, ap₂, refl, subst, ℕ, ◌<◌, ◌^◌, arith, List, ◌∷◌, ◌++◌, get_or, Option, Some, None}
use Rattle.std.specs.Fmt.{decimal}
use Rattle.std.specs.Prelude.{codes}
use Rattle.node_core.specs.declared.entry.Computation.{Computation}
use Rattle.node_core.specs.declared.entry.Entry.{Entry}
use Rattle.node_core.specs.declared.entry.Entry.TheVariants.{Did, Took, Computed, Sent}
use Rattle.svc_value.specs.Printed.{printed_value}
use Rattle.trace_text.specs.Entries.{AreBytes, IsComputation, IsEntryOf}
use Rattle.trace_text.specs.Inside.Cutting.{Lacks}
use Rattle.trace_text.specs.Inside.Parts.{entry_word, entry_rest, IsEntryWith, ReadsParts}
use Rattle.trace_text.specs.Lines.{frame_text, computation_text, entry_text, picks_text, stamps_text}
use Rattle.trace_text.specs.Naming.{Naming, AreNamed}
use Rattle.trace_text.specs.Reading.{ReadsAs}
use Rattle.trace_text.proofs.OneLine.{IsPick, picks-lacks, stamps-lacks, one_word, one_computed, regrouped, with_word, picks_word, picks_word-lacks}
use Rattle.trace_text.proofs.Words.{each_of, has_stop, lacks_by, one_split}

-- ---- computations

module _ (name : Naming) (count : ℕ) (named : AreNamed name count) where
  picks_lack : (c : Computation) → IsComputation count c → Lacks 32 (picks_text c.picks)
  picks_lack c is = picks-lacks c.picks (each_of IsPick c.picks is.picks)

  stamps_lack : (c : Computation) → IsComputation count c → Lacks 32 (stamps_text name c.stamps)
  stamps_lack c is = stamps-lacks name count named c.stamps is.stamps

  as_words : (c : Computation) → computation_text name c ≡ (printed_value c.value ++ 32 ∷ (with_word ++ 32 ∷ stamps_text name c.stamps)) ++ 32 ∷ (picks_word ++ 32 ∷ picks_text c.picks)
  as_words c = regrouped (printed_value c.value) (stamps_text name c.stamps) (picks_text c.picks)

  -- without the word `picks` the text is that of none
  pub no_picks : (text : List ℕ) → ((front last : List ℕ) → Lacks 32 last → text ≢ front ++ 32 ∷ (picks_word ++ 32 ∷ last)) → (c : Computation) → IsComputation count c → text ≢ computation_text name c
  no_picks text none c is e = none (printed_value c.value ++ 32 ∷ (with_word ++ 32 ∷ stamps_text name c.stamps)) (picks_text c.picks) (picks_lack c is) (e ∙ as_words c)

  -- the text is cut at that word
  abbrev IsCut : List ℕ → List ℕ → List ℕ → List ℕ → Type 0
  IsCut word text front last = (text ≡ front ++ 32 ∷ (word ++ 32 ∷ last)) × Lacks 32 last

  front_is : (text front picks : List ℕ) → IsCut picks_word text front picks → (c : Computation) → IsComputation count c → text ≡ computation_text name c →
      front ≡ printed_value c.value ++ 32 ∷ (with_word ++ 32 ∷ stamps_text name c.stamps)
  front_is text front picks cut c is e =
      (one_word picks_word front (printed_value c.value ++ 32 ∷ (with_word ++ 32 ∷ stamps_text name c.stamps)) picks (picks_text c.picks) picks_word-lacks cut.1 (picks_lack c is) (sym cut.0 ∙ e ∙ as_words c)).0

  -- nor without the word `with` before it
  pub no_with : (text front picks : List ℕ) → IsCut picks_word text front picks → ((first last : List ℕ) → Lacks 32 last → front ≢ first ++ 32 ∷ (with_word ++ 32 ∷ last)) →
      (c : Computation) → IsComputation count c → text ≢ computation_text name c
  no_with text front picks cut none c is e = none (printed_value c.value) (stamps_text name c.stamps) (stamps_lack c is) (front_is text front picks cut c is e)

  -- what its three parts are, it is
  pub parts_read : (text front value stamps picks : List ℕ) → IsCut picks_word text front picks → IsCut with_word front value stamps → (result : Option Computation) →
      ReadsParts name count value stamps picks result → ReadsAs (IsComputation count) (computation_text name) text result
  parts_read text front value stamps picks last first (Some c) read =
      let front_words : front ≡ printed_value c.value ++ 32 ∷ (with_word ++ 32 ∷ stamps_text name c.stamps) = first.0 ∙ ap₂ (λ (v s : List ℕ). v ++ 32 ∷ (with_word ++ 32 ∷ s)) read.1 read.2 in
      (read.0, last.0 ∙ ap₂ (λ (f p : List ℕ). f ++ 32 ∷ (picks_word ++ 32 ∷ p)) front_words read.3 ∙ sym (as_words c))
  parts_read text front value stamps picks last first None read = λ c is e.
      let whole : text ≡ (value ++ 32 ∷ (with_word ++ 32 ∷ stamps)) ++ 32 ∷ (picks_word ++ 32 ∷ picks) = last.0 ∙ ap (λ (f : List ℕ). f ++ 32 ∷ (picks_word ++ 32 ∷ picks)) first.0 in
      let parts = one_computed value (printed_value c.value) stamps (stamps_text name c.stamps) picks (picks_text c.picks) first.1 (stamps_lack c is) last.1 (picks_lack c is)
      (regrouped value stamps picks ∙ sym whole ∙ e) in
      read c is parts.0 parts.1 parts.2

-- ---- entries

first : (xs ys : List ℕ) → xs ≡ ys → get_or xs 0 0 ≡ get_or ys 0 0
first xs ys e = ap (λ (l : List ℕ). get_or l 0 0) e

-- a text that is that of no entry with this word
pub no_did : (digits : List ℕ) → ((n : ℕ) → n < 2 ^ 32 → digits ≢ decimal n) → (count : ℕ) (name : Naming) (x : Entry) → IsEntryWith count (codes "did") x → digits ≢ entry_rest name x
no_did digits none count name (Did c) is e = none c is.0 e
no_did digits none count name (Took a xs) is e = absurd (omega (arith, first _ _ is.1))
no_did digits none count name (Computed c) is e = absurd (omega (arith, first _ _ is.1))
no_did digits none count name (Sent a xs) is e = absurd (omega (arith, first _ _ is.1))

module _ (name : Naming) (count : ℕ) where
  abbrev IsFrame : ℕ × List ℕ → Type 0
  IsFrame pair = (pair.0 < count) × AreBytes pair.1

  pub no_took : (text : List ℕ) → ((p : ℕ × List ℕ) → IsFrame p → text ≢ frame_text name p.0 p.1) → (x : Entry) → IsEntryWith count (codes "took") x → text ≢ entry_rest name x
  no_took text none (Took a xs) is e = none (a, xs) is.0 e
  no_took text none (Did c) is e = absurd (omega (arith, first _ _ is.1))
  no_took text none (Computed c) is e = absurd (omega (arith, first _ _ is.1))
  no_took text none (Sent a xs) is e = absurd (omega (arith, first _ _ is.1))

  pub no_computed : (text : List ℕ) → ((c : Computation) → IsComputation count c → text ≢ computation_text name c) → (x : Entry) → IsEntryWith count (codes "computed") x → text ≢ entry_rest name x
  no_computed text none (Computed c) is e = none c is.0 e
  no_computed text none (Did c) is e = absurd (omega (arith, first _ _ is.1))
  no_computed text none (Took a xs) is e = absurd (omega (arith, first _ _ is.1))
  no_computed text none (Sent a xs) is e = absurd (omega (arith, first _ _ is.1))

  pub no_sent : (text : List ℕ) → ((p : ℕ × List ℕ) → IsFrame p → text ≢ frame_text name p.0 p.1) → (x : Entry) → IsEntryWith count (codes "sent") x → text ≢ entry_rest name x
  no_sent text none (Sent a xs) is e = none (a, xs) is.0 e
  no_sent text none (Did c) is e = absurd (omega (arith, first _ _ is.1))
  no_sent text none (Took a xs) is e = absurd (omega (arith, first _ _ is.1))
  no_sent text none (Computed c) is e = absurd (omega (arith, first _ _ is.1))

  -- a word of no entry
  pub no_word : (word text : List ℕ) → word ≢ codes "did" → word ≢ codes "took" → word ≢ codes "computed" → word ≢ codes "sent" → (x : Entry) → IsEntryWith count word x → text ≢ entry_rest name x
  no_word word text did took computed sent (Did c) is e = did (sym is.1)
  no_word word text did took computed sent (Took a xs) is e = took (sym is.1)
  no_word word text did took computed sent (Computed c) is e = computed (sym is.1)
  no_word word text did took computed sent (Sent a xs) is e = sent (sym is.1)

  -- an entry is its word, a blank and what stands behind it
  text_is : (x : Entry) → entry_text name x ≡ entry_word x ++ 32 ∷ entry_rest name x
  text_is (Did c) = refl
  text_is (Took a xs) = refl
  text_is (Computed c) = refl
  text_is (Sent a xs) = refl

  word-lacks : (x : Entry) → Lacks 32 (entry_word x)
  word-lacks (Did c) = lacks_by 32 (codes "did") refl
  word-lacks (Took a xs) = lacks_by 32 (codes "took") refl
  word-lacks (Computed c) = lacks_by 32 (codes "computed") refl
  word-lacks (Sent a xs) = lacks_by 32 (codes "sent") refl

  -- without a blank it is none
  pub no_blank : (text : List ℕ) → Lacks 32 text → (x : Entry) → IsEntryOf count x → text ≢ entry_text name x
  no_blank text lacks x is e = has_stop 32 (entry_word x) (entry_rest name x) (subst (Lacks 32) (e ∙ text_is x) lacks)

  -- what is read with the word of an entry is the entry
  pub entry_read : (text word behind : List ℕ) → (text ≡ word ++ 32 ∷ behind) × Lacks 32 word → (result : Option Entry) → ReadsAs (IsEntryWith count word) (entry_rest name) behind result →
      ReadsAs (IsEntryOf count) (entry_text name) text result
  entry_read text word behind cut (Some x) read = (read.0.0, cut.0 ∙ ap₂ (λ (w r : List ℕ). w ++ 32 ∷ r) (sym read.0.1) read.1 ∙ sym (text_is x))
  entry_read text word behind cut None read = λ x is e.
      let parts = one_split 32 word (entry_word x) behind (entry_rest name x) cut.1 (word-lacks x) (sym cut.0 ∙ e ∙ text_is x) in
      read x (is, sym parts.0) parts.1
