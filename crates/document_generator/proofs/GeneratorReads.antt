-- A text of accepted lines, with one line more.
use Rattle.std.proofs.Common.{◌≡◌, ℕ, List, [], ◌∷◌, ◌++◌, Bool, false, None, Some, refl, sym, ap, ◌∙◌, append_assoc, arith}
use Rattle.std.specs.Prelude.{codes, if◌then◌else◌}
use Rattle.std.proofs.lemmas.List.{append-nil}
use Rattle.svc_plan.specs.declared.plan.Mode.{Mode}
use Rattle.document_reading.specs.declared.refusal.Code.{Code}
use Rattle.document_reading.specs.declared.statement.Statement.{Statement}
use Rattle.document_reading.specs.Document.{lines_of, AcceptsLine, Reads, ends, line}
use Rattle.document_reading.specs.Grammar.{Says}
use Rattle.document_reading.specs.Refusals.{holds, statement_codes, first_code}
use Rattle.document_reading.specs.State.{State, next}
use Rattle.document_generator.proofs.GeneratorPlain.{IsPlain, ended_line, plain_utf8}

-- a line more behind accepted lines
pub reads_more : {mode : Mode} {state last : State} {lines : List (List ℕ)} {statement : Statement} (text : List ℕ) → Reads mode state lines last → AcceptsLine mode last text statement
    → Reads mode state (lines ++ text ∷ []) (next last statement)
reads_more text ends a = line a ends
reads_more text (line b r) a = line b (reads_more text r a)

-- the lines of a text are those of its whole lines, and those of what stands behind
pub IsWhole : List ℕ → Type 0
IsWhole text = (more : List ℕ) → lines_of (text ++ more) ≡ lines_of text ++ lines_of more

pub whole_none : IsWhole []
unfolding IsWhole
whole_none more = refl

one_more : {most : ℕ} (text bytes more : List ℕ) → IsWhole text → IsPlain most bytes → lines_of (text ++ (bytes ++ codes "\n") ++ more) ≡ (lines_of text ++ bytes ∷ []) ++ lines_of more
unfolding IsWhole
one_more text bytes more w h =
    ap lines_of (append_assoc text (bytes ++ codes "\n") more ∙ ap (λ (l : List ℕ). text ++ l) (append_assoc bytes (codes "\n") more))
    ∙ w (bytes ++ 10 ∷ more)
    ∙ ap (λ (l : List (List ℕ)). lines_of text ++ l) (ended_line bytes more h)
    ∙ sym (append_assoc (lines_of text) (bytes ∷ []) (lines_of more))

pub lines_more : {most : ℕ} (text bytes : List ℕ) → IsWhole text → IsPlain most bytes → lines_of (text ++ (bytes ++ codes "\n")) ≡ lines_of text ++ bytes ∷ []
lines_more text bytes w h =
    ap lines_of (sym (append-nil (text ++ (bytes ++ codes "\n")))) ∙ one_more text bytes [] w h ∙ append-nil (lines_of text ++ bytes ∷ [])

pub whole_more : {most : ℕ} (text bytes : List ℕ) → IsWhole text → IsPlain most bytes → IsWhole (text ++ (bytes ++ codes "\n"))
unfolding IsWhole
whole_more text bytes w h more = one_more text bytes more w h ∙ ap (λ (l : List (List ℕ)). l ++ lines_of more) (sym (lines_more text bytes w h))

-- a short plain line that says a statement, of which no condition of a refusal holds, is accepted
pub accepted : {mode : Mode} {state : State} {statement : Statement} (text : List ℕ) → IsPlain 99 text → Says text statement → ((code : Code) → holds mode state statement code ≡ false)
    → AcceptsLine mode state text statement
accepted {mode} {state} {statement} text h s f =
    record { reads = record { short = omega (arith, h.short); text = plain_utf8 text h; says = s }; fits = none statement_codes }
  where
    none : (codes : List Code) → first_code (holds mode state statement) codes ≡ None
    none [] = refl
    none (code ∷ codes) = ap (λ (b : Bool). if b then Some code else first_code (holds mode state statement) codes) (f code) ∙ none codes
