-- The parts of trace lines, and the lines of a log.
use Rattle.std.specs.Prelude.{ℕ, suc, ◌/◌, ◌%◌, false, List, [], ◌∷◌, ◌++◌, flat_map, codes}
use Rattle.std.specs.Fmt.{digit_glyph, decimal}
use Rattle.propagation.specs.Stamps.{Stamps}
use Rattle.node_core.specs.declared.entry.Computation.{Computation}
use Rattle.node_core.specs.declared.entry.Entry.{Entry}
use Rattle.node_core.specs.declared.entry.Entry.TheVariants.{Did, Took, Computed, Sent}
use Rattle.svc_value.specs.Printed.{printed_value}
use Rattle.trace_text.specs.Naming.{Naming}

-- the two hexadecimal digits of a byte, in lower case
abbrev pub byte_hex : ℕ → List ℕ
byte_hex byte = digit_glyph false (byte / 16) ∷ digit_glyph false (byte % 16) ∷ []

-- two such digits for each byte
abbrev pub hex : List ℕ → List ℕ
hex bytes = flat_map byte_hex bytes

-- the texts of the items, with a comma before each
abbrev pub after_commas : {X : Type 0} → (X → List ℕ) → List X → List ℕ
after_commas text items = flat_map (λ item. 44 ∷ text item) items

-- the texts of the items, with commas between
abbrev pub comma_list : {X : Type 0} → (X → List ℕ) → List X → List ℕ
comma_list text [] = []
comma_list text (item ∷ items) = text item ++ after_commas text items

-- a key and its clock, as `name@clock`
abbrev pub stamp_text : Naming → ℕ × ℕ → List ℕ
stamp_text name pair = name pair.0 ++ 64 ∷ decimal pair.1

-- the keys with their clocks, by rising key
abbrev pub stamps_text : Naming → Stamps → List ℕ
stamps_text name stamps = comma_list (stamp_text name) stamps

-- the numbers of what was picked, or `-` where nothing was
abbrev pub picks_text : List ℕ → List ℕ
picks_text [] = codes "-"
picks_text (pick ∷ picks) = comma_list decimal (pick ∷ picks)

-- the name of a service, and the digits of a frame
abbrev pub frame_text : Naming → ℕ → List ℕ → List ℕ
frame_text name n bytes = name n ++ 32 ∷ hex bytes

-- the value, the stamps and the picks of a computation
abbrev pub computation_text : Naming → Computation → List ℕ
computation_text name c = printed_value c.value ++ (codes " with " ++ (stamps_text name c.stamps ++ (codes " picks " ++ picks_text c.picks)))

-- what an entry says, behind the name of the service
abbrev pub entry_text : Naming → Entry → List ℕ
entry_text name (Did clock) = codes "did " ++ decimal clock
entry_text name (Took sender bytes) = codes "took " ++ frame_text name sender bytes
entry_text name (Computed c) = codes "computed " ++ computation_text name c
entry_text name (Sent receiver bytes) = codes "sent " ++ frame_text name receiver bytes

-- the line of an entry of the log of service n, without its LF
abbrev pub entry_body : Naming → ℕ → Entry → List ℕ
entry_body name n entry = codes "# log " ++ (name n ++ 32 ∷ entry_text name entry)

-- the line of an entry of the log of service n
abbrev pub entry_line : Naming → ℕ → Entry → List ℕ
entry_line name n entry = codes "# log " ++ (name n ++ 32 ∷ (entry_text name entry ++ 10 ∷ []))

-- the lines of a log of service n, oldest entry first
abbrev pub log_text : Naming → ℕ → List Entry → List ℕ
log_text name n entries = flat_map (entry_line name n) entries

-- the lines of these logs: the first is that of service n, and the next are those of the services after it
abbrev pub logs_text : Naming → ℕ → List (List Entry) → List ℕ
logs_text name n [] = []
logs_text name n (log ∷ logs) = log_text name n log ++ logs_text name (suc n) logs

-- the text of a family, which is a log for each service, in the order of declaration
abbrev pub family_text : Naming → List (List Entry) → List ℕ
family_text name logs = logs_text name 0 logs
