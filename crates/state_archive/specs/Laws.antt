-- Laws of what an archive keeps.
use Rattle.std.specs.Prelude.{◌≡◌, ℕ, ◌<◌, ◌≤◌, Some, None, List, [], ◌∷◌, ◌++◌, Contains}
use Rattle.state_archive.specs.Entries.{Entries, AreRising, entry_of, last_of, kept_after}

-- after a save the legs rise, where they rose before
abbrev pub SavesKeepRising : Type 0
SavesKeepRising = (entries : Entries) (leg : ℕ) (state : List ℕ) → AreRising entries → AreRising (kept_after entries leg state)

-- after a save the last entry is the saved one
abbrev pub LastIsSaved : Type 0
LastIsSaved = (entries : Entries) (leg : ℕ) (state : List ℕ) → last_of (kept_after entries leg state) ≡ Some state

-- a save leaves each entry of a lower leg as it was
abbrev pub LowerEntriesStay : Type 0
LowerEntriesStay = (entries : Entries) (leg : ℕ) (state : List ℕ) (k : ℕ) → k < leg → entry_of (kept_after entries leg state) k ≡ entry_of entries k

-- after a save the entry of its leg is the saved one
abbrev pub EntryIsSaved : Type 0
EntryIsSaved = (entries : Entries) (leg : ℕ) (state : List ℕ) → entry_of (kept_after entries leg state) leg ≡ Some state

-- after a save no higher leg has an entry
abbrev pub HigherEntriesGo : Type 0
HigherEntriesGo = (entries : Entries) (leg : ℕ) (state : List ℕ) (k : ℕ) → leg < k → entry_of (kept_after entries leg state) k ≡ None

-- a save of a leg above all that are kept appends its entry
abbrev pub SavesAboveAppend : Type 0
SavesAboveAppend = (entries : Entries) (leg : ℕ) (state : List ℕ) → ((k : ℕ) → leg ≤ k → entry_of entries k ≡ None) → kept_after entries leg state ≡ entries ++ (leg, state) ∷ []

-- where the legs rise, each entry is found under its leg
abbrev pub EntriesAreFound : Type 0
EntriesAreFound = (entries : Entries) (entry : ℕ × List ℕ) → AreRising entries → Contains entries entry → entry_of entries entry.0 ≡ Some entry.1

-- where the legs rise, the last entry is that of the leg above which none has an entry
abbrev pub GreatestIsLast : Type 0
GreatestIsLast = (entries : Entries) (leg : ℕ) (state : List ℕ) → AreRising entries → entry_of entries leg ≡ Some state → ((k : ℕ) → leg < k → entry_of entries k ≡ None) → last_of entries ≡ Some state
