use Rattle.std.proofs.Common.{◌≡◌, take}
use Rattle.saved_state.specs.States.{services_of}
use Rattle.saved_state.proofs.saving.saved_of.Given as goal

abbrev pub invariant-loop-number : goal.invariant-loop-number
invariant-loop-number l = l.services ≡ services_of (take l.number l.book)
