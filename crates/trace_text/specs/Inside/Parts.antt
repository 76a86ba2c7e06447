-- The parts of what an entry says: its word and what stands behind it, and the three parts of a computation.
use Rattle.std.specs.Prelude.{◌≡◌, ℕ, List, codes, Option, Some, None}
use Rattle.std.specs.Fmt.{decimal}
use Rattle.node_core.specs.declared.entry.Computation.{Computation}
use Rattle.node_core.specs.declared.entry.Entry.{Entry}
use Rattle.node_core.specs.declared.entry.Entry.TheVariants.{Did, Took, Computed, Sent}
use Rattle.svc_value.specs.Printed.{printed_value}
use Rattle.trace_text.specs.Entries.{IsComputation, IsEntryOf}
use Rattle.trace_text.specs.Lines.{computation_text, frame_text, picks_text, stamps_text}
use Rattle.trace_text.specs.Naming.{Naming}

-- the word of an entry
abbrev pub entry_word : Entry → List ℕ
entry_word (Did clock) = codes "did"
entry_word (Took sender bytes) = codes "took"
entry_word (Computed c) = codes "computed"
entry_word (Sent receiver bytes) = codes "sent"

-- what stands behind it and a blank
abbrev pub entry_rest : Naming → Entry → List ℕ
entry_rest name (Did clock) = decimal clock
entry_rest name (Took sender bytes) = frame_text name sender bytes
entry_rest name (Computed c) = computation_text name c
entry_rest name (Sent receiver bytes) = frame_text name receiver bytes

-- an entry with this word
abbrev pub IsEntryWith : ℕ → List ℕ → Entry → Type 0
IsEntryWith count word entry = IsEntryOf count entry × (entry_word entry ≡ word)

-- the computation whose value, stamps and picks are printed so, or nothing where it is that of none
abbrev pub ReadsParts : Naming → ℕ → List ℕ → List ℕ → List ℕ → Option Computation → Type 0
ReadsParts name count value stamps picks (Some c) =
    IsComputation count c × (value ≡ printed_value c.value) × (stamps ≡ stamps_text name c.stamps) × (picks ≡ picks_text c.picks)
ReadsParts name count value stamps picks None =
    (c : Computation) → IsComputation count c → value ≡ printed_value c.value → stamps ≡ stamps_text name c.stamps → picks ≡ picks_text c.picks → ⊥
