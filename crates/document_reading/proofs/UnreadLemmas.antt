-- Lines that say nothing, and the code with which they are refused.
use Rattle.std.proofs.Common.{◌≡◌, ℕ, ◌<◌, ◌≤◌, List, length, Result, Ok, Err, sym, subst, ◌∙◌, IsUtf8}
use Rattle.std.specs.Prelude.{IfErr}
use Rattle.document_reading.specs.declared.refusal.Code.{Code}
use Rattle.document_reading.specs.declared.refusal.Code.TheVariants.{E02, E03}
use Rattle.document_reading.specs.declared.statement.Statement.{Statement}
use Rattle.document_reading.specs.declared.line_error.LineError.{LineError}
use Rattle.document_reading.specs.declared.line_error.LineError.TheVariants.{Refused, OutOfMemory}
use Rattle.document_reading.specs.Document.{IsUnread, long, other_bytes, other_words}
use Rattle.document_reading.specs.Grammar.{Says}
use Rattle.document_reading.specs.Reading.{ParsesAs}

code_is : (a b : Code) → Refused a ≡ Refused b → a ≡ b
code_is a b e = cc

pub too_long : (line : List ℕ) → 4096 < length line → (code : Code) → Refused E02 ≡ Refused code → IsUnread line code
too_long line h code e = subst (IsUnread line) (code_is E02 code e) (long h)

pub no_text : (line : List ℕ) → length line ≤ 4096 → (IsUtf8 line → ⊥) → (code : Code) → Refused E03 ≡ Refused code → IsUnread line code
no_text line s h code e = subst (IsUnread line) (code_is E03 code e) (other_bytes s h)

pub no_words : (line : List ℕ) → length line ≤ 4096 → IsUtf8 line → (result : Result Statement LineError) → ParsesAs (Says line) result
    → IfErr result (λ stop. (code : Code) → stop ≡ Refused code → IsUnread line code)
no_words line s u (Ok statement) h = tt
no_words line s u (Err (Refused was)) h = λ code e. subst (IsUnread line) (sym h.0 ∙ code_is was code e) (other_words s u h.1)
no_words line s u (Err OutOfMemory) h = λ code e. absurd (cc)
