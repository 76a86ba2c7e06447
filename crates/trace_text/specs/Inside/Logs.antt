-- How the logs of a block grow, line by line.
use Rattle.std.specs.Prelude.{◌≡◌, ◌≢◌, ◌≤◌, ◌+◌, ◌⊎◌, ℕ, Bool, true, false, List, [], ◌∷◌, ◌++◌, length}
use Rattle.node_core.specs.declared.entry.Entry.{Entry}
use Rattle.trace_text.specs.Entries.{IsOwnedEntry}
use Rattle.trace_text.specs.Lines.{entry_body}
use Rattle.trace_text.specs.Naming.{Naming}
use Rattle.trace_text.specs.Reading.{family_entries, is_passed}

-- the line, given without its LF, is that of an entry that now stands last
pub record IsAppended (name : Naming) (count : ℕ) (body : List ℕ) (old new : List (List Entry)) : Type 0 where
  pub owner : ℕ
  pub entry : Entry
  pub within : IsOwnedEntry count (owner, entry)
  pub is : body ≡ entry_body name owner entry
  pub entries : family_entries 0 new ≡ family_entries 0 old ++ (owner, entry) ∷ []
  pub long : length new ≡ owner + 1

-- the line is passed over, or it is that of an entry that now stands last
abbrev pub GoesOn : Naming → ℕ → List ℕ → List (List Entry) → List (List Entry) → Type 0
GoesOn name count body old new =
    ((is_passed (body ++ 10 ∷ []) ≡ true) × (new ≡ old))
    ⊎ ((is_passed (body ++ 10 ∷ []) ≡ false) × IsAppended name count body old new)

-- the line is not passed over, and is that of no entry that may stand behind these logs
abbrev pub MayNotStand : Naming → ℕ → List ℕ → List (List Entry) → Type 0
MayNotStand name count body logs =
    (is_passed (body ++ 10 ∷ []) ≡ false)
    × ((owned : ℕ × Entry) → IsOwnedEntry count owned → length logs ≤ owned.0 + 1 → body ≢ entry_body name owned.0 owned.1)

-- whether the line was read
abbrev pub ReadsLine : Naming → ℕ → List ℕ → List (List Entry) → List (List Entry) → Bool → Type 0
ReadsLine name count body old new true = GoesOn name count body old new
ReadsLine name count body old new false = MayNotStand name count body old
