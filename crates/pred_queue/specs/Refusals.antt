-- The refusals of a slot, as those of the machine.
use Rattle.std.specs.Prelude.{Option, Result}
use Rattle.std.proofs.Common.{Some, None, Ok, Err}
use Rattle.service_machine.specs.Refusing.{Refusal}
use Rattle.service_machine.specs.Refusing.Refusal.{SlotBack, NoSources as Unannounced, WrongPlace as BadPlace, NotWhole as Partial}
use Rattle.pred_queue.specs.declared.errors.SlotError.{SlotError}
use Rattle.pred_queue.specs.declared.errors.SlotError.TheVariants.{EpochBack, NoSources, WrongPlace, NotWhole, OutOfMemory}

-- out of memory refuses nothing
abbrev pub refusal_of : SlotError → Option Refusal
refusal_of (EpochBack had) = Some (SlotBack had)
refusal_of NoSources = Some Unannounced
refusal_of (WrongPlace announced place) = Some (BadPlace announced place)
refusal_of (NotWhole announced carried) = Some (Partial announced carried)
refusal_of OutOfMemory = None

-- what an answer refuses
abbrev pub refusal_in : {A : Type 0} → Result A SlotError → Option Refusal
refusal_in (Ok x) = None
refusal_in (Err error) = refusal_of error

-- the same where the value comes back
abbrev pub refusal_with : {A B : Type 0} → Result A (SlotError × B) → Option Refusal
refusal_with (Ok x) = None
refusal_with (Err refused) = refusal_of refused.0
