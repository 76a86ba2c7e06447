use Rattle.std.proofs.Common.{◌≡◌, take}
use Rattle.saved_state.specs.States.{names_at, names_in}
use Rattle.saved_state.proofs.writing.names_of.Given as goal

abbrev pub invariant-loop-id : goal.invariant-loop-id
invariant-loop-id l = l.names ≡ names_at (names_in l.services) (take l.id-index l.ids)
