-- What a call answered, said of another question.
use Rattle.std.proofs.Common.{Result, Ok, Err}
use Rattle.document_reading.specs.declared.line_error.LineError.{LineError}
use Rattle.document_reading.specs.declared.line_error.LineError.TheVariants.{Refused, OutOfMemory}
use Rattle.document_reading.specs.Reading.{Fails, ParsesAs}

-- what is so there comes from what is so here
pub fails_so : {X Y : Type 0} (Here : X → Type 0) (There : Y → Type 0) → ((y : Y) → There y → (x : X) × Here x) → (stop : LineError) → Fails Here stop → Fails There stop
fails_so Here There back (Refused code) h = (h.0, λ y t. let x = back y t in h.1 x.0 x.1)
fails_so Here There back OutOfMemory h = tt

-- the same things are so
pub answers_so : {X : Type 0} (Here There : X → Type 0) → ((x : X) → Here x → There x) → ((x : X) → There x → Here x) → (result : Result X LineError) → ParsesAs Here result → ParsesAs There result
answers_so Here There on back (Ok x) h = on x h
answers_so Here There on back (Err stop) h = fails_so Here There (λ x t. (x, back x t)) stop h
