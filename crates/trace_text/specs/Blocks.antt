-- The trace lines before the settled block of a leg.
use Rattle.std.specs.Prelude.{◌≡◌, ℕ, Bool, ◌<◌, List, [], ◌++◌, length, All, if◌then◌else◌}
use Rattle.propagation.specs.Notes.{Note}
use Rattle.node_core.specs.declared.entry.Entry.{Entry}
use Rattle.trace_text.specs.Naming.{Naming}
use Rattle.trace_text.specs.Lines.{family_text}
use Rattle.trace_text.specs.Named.{NamesBelow}
use Rattle.trace_text.specs.Notes.{IsNoteOf, steps_text, sources_lines}

-- which trace lines are wanted: those of notes, those of logs and those of sources
pub record Flags : Type 0 where
  pub notes : Bool
  pub logs : Bool
  pub sources : Bool

-- what trace lines say of a leg: the note of each step line, by the number of its line; the log of each service; and its sources
pub record Trace : Type 0 where
  pub notes : List (ℕ × Note)
  pub logs : List (List Entry)
  pub sources : List (List ℕ)

-- the text, if it is wanted
abbrev pub if_wanted : Bool → List ℕ → List ℕ
if_wanted is_wanted text = if is_wanted then text else []

-- the lines of the notes, then those of the logs, then those of the sources, each if they are wanted
abbrev pub trace_lines : Flags → Naming → Trace → List ℕ
trace_lines flags name trace =
    if_wanted flags.notes (steps_text name trace.notes)
    ++ (if_wanted flags.logs (family_text name trace.logs) ++ if_wanted flags.sources (sources_lines name 0 trace.sources))

-- There are a log and a list of sources for each of the first `count` services, and all that it names are such.
pub record IsTraceOf (count : ℕ) (trace : Trace) : Type 0 where
  pub notes : All (λ step. IsNoteOf count step.1) trace.notes
  pub logs : length trace.logs ≡ count
  pub entries : All (λ log. All (NamesBelow count) log) trace.logs
  pub lists : length trace.sources ≡ count
  pub sources : All (λ keys. All (λ key. key < count) keys) trace.sources
