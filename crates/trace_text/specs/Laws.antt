-- What is true of trace lines.
use Rattle.std.specs.Prelude.{◌≡◌, ℕ, List, [], ◌++◌, length}
use Rattle.node_core.specs.declared.entry.Entry.{Entry}
use Rattle.svc_graph.specs.Book.{IsBook}
use Rattle.svc_graph.specs.History.{Row}
use Rattle.svc_plan.specs.declared.plan.Leg.{Leg}
use Rattle.svc_plan.specs.Rows.{AreLegsAfter}
use Rattle.trace_text.specs.Named.{naming}
use Rattle.trace_text.specs.Names.{HaveNames}
use Rattle.trace_text.specs.Naming.{Naming, AreNamed, AreNames}
use Rattle.trace_text.specs.Lines.{family_text}
use Rattle.trace_text.specs.Entries.{IsTraceLine, IsFamilyOf}
use Rattle.trace_text.specs.Blocks.{Flags, Trace, trace_lines, IsTraceOf}
use Rattle.trace_text.specs.Settled.{Settles}
use Rattle.trace_text.specs.Traces.{Traces}
use Rattle.trace_text.specs.Untraced.{untraced}

-- a line is the line of at most one entry of one service
abbrev pub LinesAreOne : Type 0
LinesAreOne =
    (name : Naming) (count : ℕ) (line : List ℕ) (n m : ℕ) (x y : Entry) → AreNames name count →
    IsTraceLine name count line n x → IsTraceLine name count line m y → (n ≡ m) × (x ≡ y)

-- a text is the text of at most one family
abbrev pub FamiliesAreOne : Type 0
FamiliesAreOne =
    (name : Naming) (count : ℕ) (a b : List (List Entry)) → AreNames name count → IsFamilyOf count a → IsFamilyOf count b →
    family_text name a ≡ family_text name b → a ≡ b

-- without its trace lines a text that begins with those of a leg is what follows them, without its own
abbrev pub TracesAreLeftOut : Type 0
TracesAreLeftOut =
    (name : Naming) (count : ℕ) (flags : Flags) (trace : Trace) (rest : List ℕ) → AreNamed name count → IsTraceOf count trace →
    untraced (trace_lines flags name trace ++ rest) ≡ untraced rest

-- without its trace lines the text of legs that can be taken is their settled text
abbrev pub UntracedTextsSettle : Type 0
UntracedTextsSettle =
    (flags : Flags) (legs : List Leg) (traces : List Trace) (text : List ℕ) → AreLegsAfter [] legs → Traces flags 0 [] legs traces text →
    Settles 0 [] legs (untraced text)

-- the services of a book have names, no two the same, where each of its rows has one
abbrev pub BooksAreNamed : Type 0
BooksAreNamed = (rows : List Row) → HaveNames rows → IsBook rows → AreNames (naming rows) (length rows)
