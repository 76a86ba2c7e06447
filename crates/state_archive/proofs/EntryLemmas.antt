-- What is found among entries, and what is kept after a save.
use Rattle.std.proofs.Common.{◌≡◌, ℕ, suc, ◌-◌, ◌<◌, ◌≤◌, ◌==◌, Bool, true, false, cond, List, [], ◌∷◌, ◌++◌, Some, length, option_map, refl, sym, ap, subst, inl, inr, ◌∙◌, arith}
use Rattle.std.specs.Prelude.{nat_lt, filter, find}
use Rattle.std.specs.List.{slice_get}
use Rattle.std.proofs.lemmas.Bool.{cond-true, cond-false, cases_lt, eq-eqb, ne_eqb, lt-ltb, le-ltb}
use Rattle.state_archive.specs.Entries.{Entries, AreAbove, AreRising, entry_of, last_of, kept_after}

-- the first entry, or one of the rest
pub entry-step : (entry : ℕ × List ℕ) (rest : Entries) (k : ℕ) → entry_of (entry ∷ rest) k ≡ cond (entry.0 == k) (Some entry.1) (entry_of rest k)
entry-step entry rest k = go (entry.0 == k)
  where
    go : (b : Bool) → option_map (λ (e : ℕ × List ℕ). e.1) (cond b (Some entry) (find (λ (e : ℕ × List ℕ). e.0 == k) rest)) ≡ cond b (Some entry.1) (entry_of rest k)
    go true = refl
    go false = refl

-- the first entry is the one of its leg
pub entry_here : (entry : ℕ × List ℕ) (rest : Entries) (k : ℕ) → entry.0 ≡ k → entry_of (entry ∷ rest) k ≡ Some entry.1
entry_here entry rest k is = entry-step entry rest k ∙ cond-true (entry.0 == k) (Some entry.1) (entry_of rest k) (eq-eqb entry.0 k is)

-- that of another leg is among the rest
pub entry_later : (entry : ℕ × List ℕ) (rest : Entries) (k : ℕ) → (entry.0 ≡ k → ⊥) → entry_of (entry ∷ rest) k ≡ entry_of rest k
entry_later entry rest k other = entry-step entry rest k ∙ cond-false (entry.0 == k) (Some entry.1) (entry_of rest k) (ne_eqb entry.0 k other)

-- a lower entry is kept
pub kept_here : (entry : ℕ × List ℕ) (rest : Entries) (leg : ℕ) (state : List ℕ) → entry.0 < leg → kept_after (entry ∷ rest) leg state ≡ entry ∷ kept_after rest leg state
kept_here entry rest leg state below =
    let lower : Entries = filter (λ (e : ℕ × List ℕ). nat_lt e.0 leg) rest in
    ap (λ (es : Entries). es ++ (leg, state) ∷ []) (cond-true (nat_lt entry.0 leg) (entry ∷ lower) lower (lt-ltb entry.0 leg below))

-- another is dropped
pub dropped_here : (entry : ℕ × List ℕ) (rest : Entries) (leg : ℕ) (state : List ℕ) → leg ≤ entry.0 → kept_after (entry ∷ rest) leg state ≡ kept_after rest leg state
dropped_here entry rest leg state above =
    let lower : Entries = filter (λ (e : ℕ × List ℕ). nat_lt e.0 leg) rest in
    ap (λ (es : Entries). es ++ (leg, state) ∷ []) (cond-false (nat_lt entry.0 leg) (entry ∷ lower) lower (le-ltb entry.0 leg above))

-- what was above a lower leg is still above it
above_kept : (low leg : ℕ) (state : List ℕ) (entries : Entries) → AreAbove low entries → low < leg → AreAbove low (kept_after entries leg state)
above_kept low leg state [] above lt = (lt, tt)
above_kept low leg state (entry ∷ rest) above lt =
    elim (cases_lt entry.0 leg) [
      | inl lower ↦ subst (AreAbove low) (sym (kept_here entry rest leg state lower)) (above.0, above_kept low leg state rest above.1 lt)
      | inr higher ↦ subst (AreAbove low) (sym (dropped_here entry rest leg state higher)) (above_kept low leg state rest above.1 lt)
    ]

-- after a save the legs rise
pub rising_kept : (entries : Entries) (leg : ℕ) (state : List ℕ) → AreRising entries → AreRising (kept_after entries leg state)
rising_kept [] leg state rising = (tt, tt)
rising_kept (entry ∷ rest) leg state rising =
    elim (cases_lt entry.0 leg) [
      | inl lower ↦ subst AreRising (sym (kept_here entry rest leg state lower)) (above_kept entry.0 leg state rest rising.0 lower, rising_kept rest leg state rising.1)
      | inr higher ↦ subst AreRising (sym (dropped_here entry rest leg state higher)) (rising_kept rest leg state rising.1)
    ]

-- an entry that is appended is the last
last_appended : (entries : Entries) (entry : ℕ × List ℕ) → last_of (entries ++ entry ∷ []) ≡ Some entry.1
last_appended [] entry = refl
last_appended (first ∷ []) entry = refl
last_appended (first ∷ next ∷ rest) entry = last_appended (next ∷ rest) entry

-- after a save the last entry is the saved one
pub last_saved : (entries : Entries) (leg : ℕ) (state : List ℕ) → last_of (kept_after entries leg state) ≡ Some state
last_saved entries leg state = last_appended (filter (λ (e : ℕ × List ℕ). nat_lt e.0 leg) entries) (leg, state)

-- the last entry stands at the last place
pub last_at : (entries : Entries) → option_map (λ (e : ℕ × List ℕ). e.1) (slice_get entries (length entries - 1)) ≡ last_of entries
last_at [] = refl
last_at (first ∷ []) = refl
last_at (first ∷ next ∷ rest) =
    let here : length (first ∷ next ∷ rest) - 1 ≡ suc (length rest) = omega arith in
    let there : length rest ≡ length (next ∷ rest) - 1 = omega arith in
    ap (λ n. option_map (λ (e : ℕ × List ℕ). e.1) (slice_get (first ∷ next ∷ rest) n)) here ∙
    ap (λ n. option_map (λ (e : ℕ × List ℕ). e.1) (slice_get (next ∷ rest) n)) there ∙ last_at (next ∷ rest)
