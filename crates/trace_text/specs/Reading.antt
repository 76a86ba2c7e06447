-- What is read of the text of a block: the logs that its log lines say.
use Rattle.std.specs.Prelude.{◌≡◌, ◌≢◌, ℕ, suc, Bool, false, not, ◌&&◌, ◌||◌, ◌==◌, nat_eq, filter, map, codes, List, [], ◌∷◌, ◌++◌, length, Option, Some, None}
use Rattle.std.specs.List.{starts_with}
use Rattle.node_core.specs.declared.entry.Entry.{Entry}
use Rattle.trace_text.specs.Entries.{IsFamilyOf}
use Rattle.trace_text.specs.Lines.{entry_line}
use Rattle.trace_text.specs.Naming.{Naming}

-- the bytes are the text of just this one, or of none
abbrev pub ReadsAs : {X : Type 0} → (X → Type 0) → (X → List ℕ) → List ℕ → Option X → Type 0
ReadsAs Is text bytes (Some x) = Is x × (bytes ≡ text x)
ReadsAs {X} Is text bytes None = (x : X) → Is x → bytes ≢ text x

-- ---- the lines of a family

-- the entries of a log of service n, each with the service
abbrev pub owned_entries : ℕ → List Entry → List (ℕ × Entry)
owned_entries n [] = []
owned_entries n (entry ∷ entries) = (n, entry) ∷ owned_entries n entries

-- the entries of these logs: the first is that of service n, and the next are those of the services after it
abbrev pub family_entries : ℕ → List (List Entry) → List (ℕ × Entry)
family_entries n [] = []
family_entries n (log ∷ logs) = owned_entries n log ++ family_entries (suc n) logs

-- the lines of a family: one for each entry
abbrev pub family_lines : Naming → List (List Entry) → List (List ℕ)
family_lines name family = map (λ owned. entry_line name owned.0 owned.1) (family_entries 0 family)

-- ---- the lines of a text

-- whether the line ends with LF
abbrev pub is_ended : List ℕ → Bool
is_ended [] = false
is_ended (b ∷ []) = b == 10
is_ended (b ∷ c ∷ line) = is_ended (c ∷ line)

-- whether it is the line of a note or of sources
abbrev pub is_passed : List ℕ → Bool
is_passed line = is_ended line && (starts_with nat_eq line (codes "# step ") || starts_with nat_eq line (codes "# sources "))

-- the lines without those
abbrev pub log_lines : List (List ℕ) → List (List ℕ)
log_lines lines = filter (λ line. not (is_passed line)) lines

-- without lines of notes and sources, the lines are those of this family
pub record AreLinesOf (name : Naming) (count : ℕ) (lines : List (List ℕ)) (family : List (List Entry)) : Type 0 where
  pub within : IsFamilyOf count family
  pub lines_are : log_lines lines ≡ family_lines name family

-- The line of this number, from 1, is the first wrong one: the lines before it are those of a family, and with it they begin the
-- lines of none.
pub record IsFirstWrong (name : Naming) (count : ℕ) (lines : List (List ℕ)) (number : ℕ) : Type 0 where
  pub before : List (List ℕ)
  pub line : List ℕ
  pub behind : List (List ℕ)
  pub lines_are : lines ≡ before ++ line ∷ behind
  pub number_is : number ≡ suc (length before)
  pub right : (family : List (List Entry)) × AreLinesOf name count before family
  pub wrong : (more : List (List ℕ)) (family : List (List Entry)) → AreLinesOf name count (before ++ line ∷ more) family → ⊥
