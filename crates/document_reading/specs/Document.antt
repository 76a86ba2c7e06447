-- Which documents are accepted, and which line of another is refused.
use Rattle.std.specs.Prelude.{◌≡◌, ℕ, ◌+◌, ◌<◌, ◌≤◌, ◌==◌, if◌then◌else◌, List, [], ◌∷◌, ◌++◌, length, ◌⊎◌, Some, None}
use Rattle.std.specs.Str.{IsUtf8}
use Rattle.svc_graph.specs.History.{Row}
use Rattle.svc_plan.specs.declared.plan.Leg.{Leg}
use Rattle.svc_plan.specs.declared.plan.Mode.{Mode}
use Rattle.document_reading.specs.declared.refusal.Code.{Code}
use Rattle.document_reading.specs.declared.refusal.Code.TheVariants.{E01, E02, E03, E04}
use Rattle.document_reading.specs.declared.refusal.Refusal.{Refusal}
use Rattle.document_reading.specs.declared.statement.Statement.{Statement}
use Rattle.document_reading.specs.Grammar.{Says}
use Rattle.document_reading.specs.Refusals.{refusal}
use Rattle.document_reading.specs.State.{State, start, next, legs_in}
use Rattle.svc_value.specs.declared.limits.TheConstants.{MAX_DOCUMENT_LEN, MAX_LINE_LEN}

-- ---- lines

-- a byte before the first line
abbrev pub before_first_line : ℕ → List (List ℕ) → List (List ℕ)
before_first_line b [] = (b ∷ []) ∷ []
before_first_line b (line ∷ lines) = (b ∷ line) ∷ lines

-- the lines, each without the LF that ends it; the last may lack one
abbrev pub lines_of : List ℕ → List (List ℕ)
lines_of [] = []
lines_of (b ∷ bytes) = if b == 10 then [] ∷ lines_of bytes else before_first_line b (lines_of bytes)

-- a line of at most 4,096 bytes of UTF-8 that says this
pub record IsLine (line : List ℕ) (statement : Statement) : Type 0 where
  pub short : length line ≤ MAX_LINE_LEN
  pub text : IsUtf8 line
  pub says : Says line statement

-- the line says this, which is not refused in this state
pub record AcceptsLine (mode : Mode) (state : State) (line : List ℕ) (statement : Statement) : Type 0 where
  pub reads : IsLine line statement
  pub fits : refusal mode state statement ≡ None

-- the line says nothing: it is too long, not UTF-8 or not in the grammar, whatever stands before it
pub data IsUnread (line : List ℕ) : Code → Type 0 where
  long : MAX_LINE_LEN < length line → IsUnread line E02
  other_bytes : length line ≤ MAX_LINE_LEN → (IsUtf8 line → ⊥) → IsUnread line E03
  other_words : length line ≤ MAX_LINE_LEN → IsUtf8 line → ((statement : Statement) → Says line statement → ⊥) → IsUnread line E04

-- the line is refused in this state, with the lowest-numbered code whose condition holds
pub data RefusesLine (mode : Mode) (state : State) (line : List ℕ) : Code → Type 0 where
  unread : {code : Code} → IsUnread line code → RefusesLine mode state line code
  against : {statement : Statement} {code : Code} → IsLine line statement → refusal mode state statement ≡ Some code → RefusesLine mode state line code

-- ---- documents

-- each of the lines is accepted after those before it, and they lead from the first state to the last
pub data Reads (mode : Mode) : State → List (List ℕ) → State → Type 0 where
  ends : {state : State} → Reads mode state [] state
  line : {state last : State} {first : List ℕ} {lines : List (List ℕ)} {statement : Statement} → AcceptsLine mode state first statement → Reads mode (next state statement) lines last
      → Reads mode state (first ∷ lines) last

-- the document is accepted where these are the rows and so many legs have ended, and leads to this state
pub record IsDocumentAfter (rows : List Row) (before : ℕ) (mode : Mode) (bytes : List ℕ) (last : State) : Type 0 where
  pub short : length bytes ≤ MAX_DOCUMENT_LEN
  pub lines : Reads mode (start rows before) (lines_of bytes) last

-- it is accepted there, and these are its legs
abbrev pub HasLegsAfter : List Row → ℕ → Mode → List ℕ → List Leg → Type 0
HasLegsAfter rows before mode bytes legs = (last : State) × IsDocumentAfter rows before mode bytes last × (legs ≡ legs_in last)

-- it is accepted there
abbrev pub IsAcceptedAfter : List Row → ℕ → Mode → List ℕ → Type 0
IsAcceptedAfter rows before mode bytes = (last : State) × IsDocumentAfter rows before mode bytes last

-- the line with this number, from 1, is the first that is refused, with this code
pub record IsFirstRefused (rows : List Row) (before : ℕ) (mode : Mode) (bytes : List ℕ) (number : ℕ) (code : Code) : Type 0 where
  pub front : List (List ℕ)
  pub line : List ℕ
  pub behind : List (List ℕ)
  pub state : State
  pub lines : lines_of bytes ≡ front ++ line ∷ behind
  pub number_is : number ≡ length front + 1
  pub accepted : Reads mode (start rows before) front state
  pub refused : RefusesLine mode state line code

-- the refusal of a document that is not accepted there
abbrev pub IsRefusalAfter : List Row → ℕ → Mode → List ℕ → Refusal → Type 0
IsRefusalAfter rows before mode bytes refused =
    ((MAX_DOCUMENT_LEN < length bytes) × (refused ≡ record { line = 0; code = E01 }))
    ⊎ ((length bytes ≤ MAX_DOCUMENT_LEN) × IsFirstRefused rows before mode bytes refused.line refused.code)

-- ---- before any service

-- the document is accepted, and these are its legs
abbrev pub HasLegs : Mode → List ℕ → List Leg → Type 0
HasLegs mode bytes legs = HasLegsAfter [] 0 mode bytes legs

-- the document is accepted
abbrev pub IsAccepted : Mode → List ℕ → Type 0
IsAccepted mode bytes = IsAcceptedAfter [] 0 mode bytes

-- the refusal of a document that is not accepted
abbrev pub IsRefusal : Mode → List ℕ → Refusal → Type 0
IsRefusal mode bytes refused = IsRefusalAfter [] 0 mode bytes refused
