-- What an archive keeps: one state for each of some legs.
use Rattle.std.specs.Prelude.{ℕ, ◌<◌, ◌==◌, nat_lt, Option, Some, None, option_map, List, [], ◌∷◌, ◌++◌, map, filter, find, ⊤}

-- the legs with their states, as bytes, by rising leg
abbrev pub Entries : Type 0
Entries = List (ℕ × List ℕ)

-- each leg is above this one
abbrev pub AreAbove : ℕ → Entries → Type 0
AreAbove leg [] = ⊤
AreAbove leg (entry ∷ rest) = (leg < entry.0) × AreAbove leg rest

-- the legs rise: each is below all that follow it
abbrev pub AreRising : Entries → Type 0
AreRising [] = ⊤
AreRising (entry ∷ rest) = AreAbove entry.0 rest × AreRising rest

-- the legs that have an entry
abbrev pub legs_of : Entries → List ℕ
legs_of entries = map (λ entry. entry.0) entries

-- the state that is kept for a leg, if there is one
abbrev pub entry_of : Entries → ℕ → Option (List ℕ)
entry_of entries leg = option_map (λ entry. entry.1) (find (λ entry. entry.0 == leg) entries)

-- the state that is kept for the greatest leg, if anything is kept
abbrev pub last_of : Entries → Option (List ℕ)
last_of [] = None
last_of (entry ∷ []) = Some entry.1
last_of (_ ∷ next ∷ rest) = last_of (next ∷ rest)

-- the entries after a save: those below the leg, then the new one
abbrev pub kept_after : Entries → ℕ → List ℕ → Entries
kept_after entries leg state = filter (λ entry. nat_lt entry.0 leg) entries ++ (leg, state) ∷ []
