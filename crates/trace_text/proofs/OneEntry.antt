-- An entry is told by what stands behind the name, and a line by its bytes.
use Rattle.std.proofs.Common.{◌≡◌, ap, refl, ℕ, ◌<◌, arith, List, [], ◌∷◌, ◌++◌, length, get_or, drop}
use Rattle.std.proofs.lemmas.Fmt.{decimal_injective}
use Rattle.node_core.specs.declared.entry.Computation.{Computation}
use Rattle.node_core.specs.declared.entry.Entry.{Entry}
use Rattle.node_core.specs.declared.entry.Entry.TheVariants.{Did, Took, Computed, Sent}
use Rattle.svc_value.specs.Printed.{printed_value}
use Rattle.svc_value.proofs.Meanings.{one_printed}
use Rattle.trace_text.specs.Naming.{Naming, AreNames}
use Rattle.trace_text.specs.Lines.{hex, stamps_text, picks_text, computation_text, entry_text, entry_line}
use Rattle.trace_text.specs.Entries.{IsComputation, IsEntryOf}
use Rattle.trace_text.proofs.Words.{each_of, one_split, one_back}
use Rattle.trace_text.proofs.Texts.{name-lacks, one_hex}
use Rattle.trace_text.proofs.OneLine.{small, IsPick, picks-lacks, one_picks, stamps-lacks, one_stamps, one_computed}

computation-same : (c d : Computation) → c.value ≡ d.value → c.stamps ≡ d.stamps → c.picks ≡ d.picks → c ≡ d
computation-same c d p q r = λ i. record { value = p i; stamps = q i; picks = r i }

module _ (name : Naming) (count : ℕ) (names : AreNames name count) where
  -- a name, a blank and bytes
  one_sent : (p q : ℕ) (xs ys : List ℕ) → p < count → q < count → (xs_are : (k d : ℕ) → k < length xs → get_or xs k d < 256) → (ys_are : (k d : ℕ) → k < length ys → get_or ys k d < 256) →
      name p ++ 32 ∷ hex xs ≡ name q ++ 32 ∷ hex ys → (p ≡ q) × (xs ≡ ys)
  one_sent p q xs ys lp lq xs_are ys_are e =
      let parts = one_split 32 (name p) (name q) (hex xs) (hex ys) (name-lacks 32 (name p) (names.named p lp) refl refl) (name-lacks 32 (name q) (names.named q lq) refl refl) e in
      (names.apart p q lp lq parts.0, one_hex xs ys (each_of (λ b. b < 256) xs xs_are) (each_of (λ b. b < 256) ys ys_are) parts.1)

  computed-same : (c d : Computation) → IsComputation count c → IsComputation count d → computation_text name c ≡ computation_text name d → c ≡ d
  computed-same c d p q e =
      let parts = one_computed (printed_value c.value) (printed_value d.value) (stamps_text name c.stamps) (stamps_text name d.stamps) (picks_text c.picks) (picks_text d.picks)
      (stamps-lacks name count names.named c.stamps p.stamps) (stamps-lacks name count names.named d.stamps q.stamps)
      (picks-lacks c.picks (each_of IsPick c.picks p.picks)) (picks-lacks d.picks (each_of IsPick d.picks q.picks)) e in
      computation-same c d (one_printed c.value d.value p.value q.value parts.0) (one_stamps name count names c.stamps d.stamps p.stamps q.stamps parts.1)
      (one_picks c.picks d.picks (each_of IsPick c.picks p.picks) (each_of IsPick d.picks q.picks) parts.2)

  first : (xs ys : List ℕ) → xs ≡ ys → get_or xs 0 0 ≡ get_or ys 0 0
  first xs ys e = ap (λ (l : List ℕ). get_or l 0 0) e

  pub one_entry_text : (x y : Entry) → IsEntryOf count x → IsEntryOf count y → entry_text name x ≡ entry_text name y → x ≡ y
  one_entry_text (Did c) (Did d) p q e = ap (λ n. Did n) (decimal_injective c d (small c p) (small d q) (ap (drop 4) e))
  one_entry_text (Took a xs) (Took b ys) p q e =
      let parts = one_sent a b xs ys p.0 q.0 p.1 q.1 (ap (drop 5) e) in
      λ i. Took (parts.0 i) (parts.1 i)
  one_entry_text (Computed c) (Computed d) p q e = ap (λ z. Computed z) (computed-same c d p q (ap (drop 9) e))
  one_entry_text (Sent a xs) (Sent b ys) p q e =
      let parts = one_sent a b xs ys p.0 q.0 p.1 q.1 (ap (drop 5) e) in
      λ i. Sent (parts.0 i) (parts.1 i)
  one_entry_text (Did c) (Took b ys) p q e = absurd (omega (arith, first _ _ e))
  one_entry_text (Did c) (Computed d) p q e = absurd (omega (arith, first _ _ e))
  one_entry_text (Did c) (Sent b ys) p q e = absurd (omega (arith, first _ _ e))
  one_entry_text (Took a xs) (Did d) p q e = absurd (omega (arith, first _ _ e))
  one_entry_text (Took a xs) (Computed d) p q e = absurd (omega (arith, first _ _ e))
  one_entry_text (Took a xs) (Sent b ys) p q e = absurd (omega (arith, first _ _ e))
  one_entry_text (Computed c) (Did d) p q e = absurd (omega (arith, first _ _ e))
  one_entry_text (Computed c) (Took b ys) p q e = absurd (omega (arith, first _ _ e))
  one_entry_text (Computed c) (Sent b ys) p q e = absurd (omega (arith, first _ _ e))
  one_entry_text (Sent a xs) (Did d) p q e = absurd (omega (arith, first _ _ e))
  one_entry_text (Sent a xs) (Took b ys) p q e = absurd (omega (arith, first _ _ e))
  one_entry_text (Sent a xs) (Computed d) p q e = absurd (omega (arith, first _ _ e))

  -- a line is told
  pub one_line : (n m : ℕ) (x y : Entry) → n < count → m < count → IsEntryOf count x → IsEntryOf count y → entry_line name n x ≡ entry_line name m y → (n ≡ m) × (x ≡ y)
  one_line n m x y ln lm p q e =
      let parts = one_split 32 (name n) (name m) (entry_text name x ++ 10 ∷ []) (entry_text name y ++ 10 ∷ []) (name-lacks 32 (name n) (names.named n ln) refl refl) (name-lacks 32 (name m) (names.named m lm) refl refl) (ap (drop 6) e) in
      let ends = one_back 10 (entry_text name x) (entry_text name y) [] [] tt tt parts.1 in
      (names.apart n m ln lm parts.0, one_entry_text x y p q ends.0)
