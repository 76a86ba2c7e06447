-- Why the text of a block is not read.
use Rattle.std.specs.Prelude.{ℕ, List}
use Rattle.trace_text.specs.declared.trace_error.TraceError.{TraceError}
use Rattle.trace_text.specs.declared.trace_error.TraceError.TheVariants as error
use Rattle.trace_text.specs.Naming.{Naming}
use Rattle.trace_text.specs.Reading.{IsFirstWrong}

-- a line that is named is the first wrong one
abbrev pub IsReadError : Naming → ℕ → List (List ℕ) → TraceError → Type 0
IsReadError name count lines (error.Bad line) = IsFirstWrong name count lines line
IsReadError name count lines error.OutOfMemory = Unit {0}
