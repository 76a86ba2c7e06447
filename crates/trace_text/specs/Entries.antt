-- What an entry can be, and which lines are those of entries.
use Rattle.std.specs.Prelude.{◌≡◌, ℕ, ◌<◌, ◌^◌, List, length, All}
use Rattle.propagation.specs.Stamps.{Stamps, IsRising}
use Rattle.node_core.specs.declared.entry.Entry.{Entry}
use Rattle.node_core.specs.declared.entry.Entry.TheVariants.{Did, Took, Computed, Sent}
use Rattle.node_core.specs.declared.entry.Computation.{Computation}
use Rattle.svc_value.specs.Layout.{IsWithin}
use Rattle.trace_text.specs.Naming.{Naming}
use Rattle.trace_text.specs.Lines.{entry_line}

-- each is a byte
abbrev pub AreBytes : List ℕ → Type 0
AreBytes bytes = All (λ byte. byte < 256) bytes

-- The stamps are those of the first `count` services: the keys rise, and each clock has 32 bits and is at least 1.
pub record AreStampsOf (count : ℕ) (stamps : Stamps) : Type 0 where
  pub rising : IsRising 0 stamps
  pub named : All (λ pair. pair.0 < count) stamps
  pub clocks : All (λ pair. pair.1 < 2 ^ 32) stamps

-- each has 64 bits
abbrev pub ArePicks : List ℕ → Type 0
ArePicks picks = All (λ pick. pick < 2 ^ 64) picks

-- the value is one, the stamps are those of the first services, and the picks are numbers of 64 bits
pub record IsComputation (count : ℕ) (c : Computation) : Type 0 where
  pub value : IsWithin c.value
  pub stamps : AreStampsOf count c.stamps
  pub picks : ArePicks c.picks

-- what the entry names are some of the first `count` services, and each number is within its type
abbrev pub IsEntryOf : ℕ → Entry → Type 0
IsEntryOf count (Did clock) = clock < 2 ^ 32
IsEntryOf count (Took sender bytes) = (sender < count) × AreBytes bytes
IsEntryOf count (Computed c) = IsComputation count c
IsEntryOf count (Sent receiver bytes) = (receiver < count) × AreBytes bytes

-- an entry of the log of one of the first `count` services, with that service
abbrev pub IsOwnedEntry : ℕ → ℕ × Entry → Type 0
IsOwnedEntry count owned = (owned.0 < count) × IsEntryOf count owned.1

-- the line is that of this entry of the log of service n
pub record IsTraceLine (name : Naming) (count : ℕ) (line : List ℕ) (n : ℕ) (entry : Entry) : Type 0 where
  pub owner : n < count
  pub within : IsEntryOf count entry
  pub is : line ≡ entry_line name n entry

-- the entries are such
abbrev pub AreEntriesOf : ℕ → List Entry → Type 0
AreEntriesOf count entries = All (IsEntryOf count) entries

-- a log for each of the services
pub record IsFamilyOf (count : ℕ) (family : List (List Entry)) : Type 0 where
  pub logs : length family ≡ count
  pub entries : All (AreEntriesOf count) family
