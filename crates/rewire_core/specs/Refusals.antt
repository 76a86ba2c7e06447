-- The refusals of a list of readers, as those of the machine.
use Rattle.std.specs.Prelude.{Option, Result}
use Rattle.std.proofs.Common.{Some, None, Ok, Err}
use Rattle.service_machine.specs.Refusing.{Refusal}
use Rattle.service_machine.specs.Refusing.Refusal.{RankNotHigher as NotHigher, Twice as Again, ReaderBack, Unknown as Unread}
use Rattle.rewire_core.specs.declared.errors.ReaderError.{ReaderError}
use Rattle.rewire_core.specs.declared.errors.ReaderError.TheVariants.{RankNotHigher, Twice, EpochBack, Unknown, OutOfMemory}

-- out of memory refuses nothing
abbrev pub refusal_of : ReaderError → Option Refusal
refusal_of RankNotHigher = Some NotHigher
refusal_of Twice = Some Again
refusal_of (EpochBack had) = Some (ReaderBack had)
refusal_of Unknown = Some Unread
refusal_of OutOfMemory = None

-- what an answer refuses
abbrev pub refusal_in : {A : Type 0} → Result A ReaderError → Option Refusal
refusal_in (Ok x) = None
refusal_in (Err error) = refusal_of error
