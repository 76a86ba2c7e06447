-- The lines of notes and of sources.
use Rattle.std.specs.Prelude.{ℕ, suc, ◌<◌, List, [], ◌∷◌, ◌++◌, flat_map, codes}
use Rattle.std.specs.Fmt.{decimal}
use Rattle.propagation.specs.Notes.{Note}
use Rattle.propagation.specs.Notes.Note.{did, took, computed, advanced, empty, lags, still, idle}
use Rattle.node_core.specs.declared.turned.Turned.{Turned as Answer}
use Rattle.node_core.specs.declared.turned.Turned.TheVariants.{Computed, Advanced, Empty, Lags, Still}
use Rattle.trace_text.specs.declared.note.StepNote.{StepNote}
use Rattle.trace_text.specs.declared.note.StepNote.TheVariants.{Did, Took, Turned, Idle}
use Rattle.trace_text.specs.Lines.{comma_list}
use Rattle.trace_text.specs.Naming.{Naming}

-- what a turn's answer is noted as
abbrev pub turn_note : Answer → Note
turn_note Computed = computed
turn_note Advanced = advanced
turn_note (Empty n) = empty n
turn_note (Lags n key) = lags n key
turn_note Still = still

-- the note of what a step line did
abbrev pub note_of : StepNote → Note
note_of Did = did
note_of Took = took
note_of (Turned answer) = turn_note answer
note_of Idle = idle

-- whom the note names are some of the first `count` services
abbrev pub IsNoteOf : ℕ → Note → Type 0
IsNoteOf count (empty n) = n < count
IsNoteOf count (lags n key) = (n < count) × (key < count)
IsNoteOf count did = Unit {0}
IsNoteOf count took = Unit {0}
IsNoteOf count computed = Unit {0}
IsNoteOf count advanced = Unit {0}
IsNoteOf count still = Unit {0}
IsNoteOf count idle = Unit {0}

-- what a note says
abbrev pub note_text : Naming → Note → List ℕ
note_text name did = codes "did"
note_text name took = codes "took"
note_text name computed = codes "computed"
note_text name advanced = codes "advanced"
note_text name (empty n) = codes "empty " ++ name n
note_text name (lags n key) = codes "lags " ++ (name n ++ 32 ∷ name key)
note_text name still = codes "still"
note_text name idle = codes "idle"

-- the line of a note: it says on which line of the document its step line stands
abbrev pub step_line : Naming → ℕ → Note → List ℕ
step_line name line note = codes "# step " ++ (decimal line ++ 32 ∷ (note_text name note ++ 10 ∷ []))

-- such a line for each step line, with its number, in their order
abbrev pub steps_text : Naming → List (ℕ × Note) → List ℕ
steps_text name notes = flat_map (λ step. step_line name step.0 step.1) notes

-- the name of a key
abbrev pub key_text : Naming → ℕ × ℕ → List ℕ
key_text name pair = name pair.0

-- the sources of service n, by rising key
abbrev pub sources_line : Naming → ℕ → List ℕ → List ℕ
sources_line name n keys = codes "# sources " ++ (name n ++ 32 ∷ (comma_list name keys ++ 10 ∷ []))

-- such a line for each of these lists: the first is that of service n, and the next are those of the services after it
abbrev pub sources_lines : Naming → ℕ → List (List ℕ) → List ℕ
sources_lines name n [] = []
sources_lines name n (keys ∷ lists) = sources_line name n keys ++ sources_lines name (suc n) lists
