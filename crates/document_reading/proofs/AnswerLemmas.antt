-- What an answer of the parser says of a line.
use Rattle.std.proofs.Common.{◌≡◌, ℕ, List, Result, Ok, Err, refl}
use Rattle.svc_plan.specs.declared.plan.Mode.{Mode}
use Rattle.document_reading.specs.declared.refusal.Code.{Code}
use Rattle.document_reading.specs.declared.statement.Statement.{Statement}
use Rattle.document_reading.specs.declared.line_error.LineError.{LineError}
use Rattle.document_reading.specs.declared.line_error.LineError.TheVariants.{Refused, OutOfMemory}
use Rattle.document_reading.specs.Document.{IsLine, IsUnread, RefusesLine, unread, against}
use Rattle.document_reading.specs.Parser.{RefusesExactly, RefusedAt}
use Rattle.document_reading.specs.Refusals.{refusal}
use Rattle.document_reading.specs.State.{State}

pub taken_refused : {X : Type 0} (mode : Mode) (state : State) (line : List ℕ) (s : Statement) (result : Result X LineError) → IsLine line s → RefusesExactly result (refusal mode state s)
    → RefusedAt result (RefusesLine mode state line)
taken_refused mode state line s (Ok given) reads h = tt
taken_refused mode state line s (Err (Refused code)) reads h = against reads h
taken_refused mode state line s (Err OutOfMemory) reads h = tt

pub unread_refused : (X : Type 0) (mode : Mode) (state : State) (line : List ℕ) (stop : LineError) → ((code : Code) → stop ≡ Refused code → IsUnread line code)
    → RefusedAt {X = X} (Err stop) (RefusesLine mode state line)
unread_refused X mode state line (Refused code) h = unread (h code refl)
unread_refused X mode state line OutOfMemory h = tt
