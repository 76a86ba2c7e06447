-- The epochs of what waits.
use Rattle.std.specs.Prelude.{ℕ, ◌≤◌, List, Option}
use Rattle.std.proofs.Common.{Some, None}
use Rattle.propagation.specs.Lists.{Has}
use Rattle.propagation.specs.Logs.{Emission}
use Rattle.service_machine.specs.Fitting.{Climb}

-- an epoch was announced, and it is at least this one
abbrev pub IsUpTo : Option ℕ → ℕ → Type 0
IsUpTo None epoch = ⊥
IsUpTo (Some last) epoch = epoch ≤ last

-- the epochs never fall, and none is above the one announced last
pub record IsQueue {V : Type 0} (last : Option ℕ) (queue : List (ℕ × Emission V)) : Type 0 where
  pub climb : Climb 0 queue
  pub up_to : (x : ℕ × Emission V) → Has queue x → IsUpTo last x.0
