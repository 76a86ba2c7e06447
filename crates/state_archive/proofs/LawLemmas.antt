-- The entries before and after a save, by leg.
use Rattle.std.proofs.Common.{◌≡◌, ℕ, zero, suc, ◌<◌, ◌==◌, cond, List, [], ◌∷◌, Some, None, length, slice_index_or, refl, sym, ap, inl, inr, ◌∙◌, arith}
use Rattle.std.proofs.lemmas.Bool.{cases_lt, cases_eq}
use Rattle.state_archive.specs.Entries.{Entries, AreAbove, AreRising, entry_of, kept_after}
use Rattle.state_archive.specs.Laws.{LowerEntriesStay, EntryIsSaved, HigherEntriesGo, SavesAboveAppend, EntriesAreFound, GreatestIsLast}
use Rattle.state_archive.proofs.EntryLemmas.{entry-step, entry_here, entry_later, kept_here, dropped_here}

-- a save leaves the lower entries
pub lower_stays : LowerEntriesStay
lower_stays [] leg state k lt = entry_later (leg, state) [] k (λ is. omega arith)
lower_stays (entry ∷ rest) leg state k lt =
    elim (cases_lt entry.0 leg) [
      | inl lower ↦
          ap (λ (es : Entries). entry_of es k) (kept_here entry rest leg state lower) ∙ entry-step entry (kept_after rest leg state) k ∙
          ap (cond (entry.0 == k) (Some entry.1)) (lower_stays rest leg state k lt) ∙ sym (entry-step entry rest k)
      | inr higher ↦
          ap (λ (es : Entries). entry_of es k) (dropped_here entry rest leg state higher) ∙ lower_stays rest leg state k lt ∙
          sym (entry_later entry rest k (λ is. omega arith))
    ]

-- the saved entry is found
pub saved_found : EntryIsSaved
saved_found [] leg state = entry_here (leg, state) [] leg refl
saved_found (entry ∷ rest) leg state =
    elim (cases_lt entry.0 leg) [
      | inl lower ↦
          ap (λ (es : Entries). entry_of es leg) (kept_here entry rest leg state lower) ∙ entry_later entry (kept_after rest leg state) leg (λ is. omega arith) ∙
          saved_found rest leg state
      | inr higher ↦ ap (λ (es : Entries). entry_of es leg) (dropped_here entry rest leg state higher) ∙ saved_found rest leg state
    ]

-- none of a higher leg is left
pub higher_gone : HigherEntriesGo
higher_gone [] leg state k lt = entry_later (leg, state) [] k (λ is. omega arith)
higher_gone (entry ∷ rest) leg state k lt =
    elim (cases_lt entry.0 leg) [
      | inl lower ↦
          ap (λ (es : Entries). entry_of es k) (kept_here entry rest leg state lower) ∙ entry_later entry (kept_after rest leg state) k (λ is. omega arith) ∙
          higher_gone rest leg state k lt
      | inr higher ↦ ap (λ (es : Entries). entry_of es k) (dropped_here entry rest leg state higher) ∙ higher_gone rest leg state k lt
    ]

-- something is not nothing
some_or_none : (x : List ℕ) {P : Type 0} → Some x ≡ None → P
some_or_none x e = cc

-- above all that are kept, a save appends
pub above_appends : SavesAboveAppend
above_appends [] leg state none = refl
above_appends (entry ∷ rest) leg state none =
    elim (cases_lt entry.0 leg) [
      | inl lower ↦
          kept_here entry rest leg state lower ∙
          ap (λ (es : Entries). entry ∷ es) (above_appends rest leg state (λ k le. sym (entry_later entry rest k (λ is. omega arith)) ∙ none k le))
      | inr higher ↦ some_or_none entry.1 (sym (entry_here entry rest entry.0 refl) ∙ none entry.0 higher)
    ]

-- an entry of a list is above what the list is above
above_at : (low : ℕ) (entries : Entries) (entry : ℕ × List ℕ) (k : ℕ) → AreAbove low entries → k < length entries → slice_index_or entries k entry ≡ entry → low < entry.0
above_at low [] entry k above lt is = absurd (omega arith)
above_at low (first ∷ rest) entry zero above lt is = let same : first.0 ≡ entry.0 = ap (λ (e : ℕ × List ℕ). e.0) is in omega (arith, above.0)
above_at low (first ∷ rest) entry (suc k) above lt is = above_at low rest entry k above.1 (omega arith) is

-- the entry at a place is found
found_at : (entries : Entries) (entry : ℕ × List ℕ) (k : ℕ) → AreRising entries → k < length entries → slice_index_or entries k entry ≡ entry → entry_of entries entry.0 ≡ Some entry.1
found_at [] entry k rising lt is = absurd (omega arith)
found_at (first ∷ rest) entry zero rising lt is =
    entry_here first rest entry.0 (ap (λ (e : ℕ × List ℕ). e.0) is) ∙ ap (λ (e : ℕ × List ℕ). Some e.1) is
found_at (first ∷ rest) entry (suc k) rising lt is =
    let above : first.0 < entry.0 = above_at first.0 rest entry k rising.0 (omega arith) is in
    entry_later first rest entry.0 (λ same. omega arith) ∙ found_at rest entry k rising.1 (omega arith) is

-- each entry is found
pub each_found : EntriesAreFound
each_found entries entry rising has = found_at entries entry has.0 rising has.1 has.2

-- the entry above which there is none is the last
pub greatest_last : GreatestIsLast
greatest_last [] leg state rising is none = some_or_none state (sym is)
greatest_last (entry ∷ []) leg state rising is none =
    elim (cases_eq entry.0 leg) [
      | inl same ↦ sym (entry_here entry [] leg same) ∙ is
      | inr other ↦ some_or_none state (sym is ∙ entry_later entry [] leg other)
    ]
greatest_last (entry ∷ next ∷ rest) leg state rising is none =
    elim (cases_eq entry.0 leg) [
      | inl same ↦
          let above : entry.0 < next.0 = rising.0.0 in
          some_or_none next.1 (sym (entry_here next rest next.0 refl) ∙ sym (entry_later entry (next ∷ rest) next.0 (λ e. omega arith)) ∙ none next.0 (omega arith))
      | inr other ↦
          greatest_last (next ∷ rest) leg state rising.1 (sym (entry_later entry (next ∷ rest) leg other) ∙ is) (none_later entry (next ∷ rest) leg none)
    ]
  where
    none_later : (entry : ℕ × List ℕ) (rest : Entries) (leg : ℕ) → ((k : ℕ) → leg < k → entry_of (entry ∷ rest) k ≡ None) → (k : ℕ) → leg < k → entry_of rest k ≡ None
    none_later entry rest leg none k lt =
        elim (cases_eq entry.0 k) [
          | inl same ↦ some_or_none entry.1 (sym (entry_here entry rest k same) ∙ none k lt)
          | inr other ↦ sym (entry_later entry rest k other) ∙ none k lt
        ]
