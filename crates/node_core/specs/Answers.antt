-- What a turn answers.
use Rattle.std.specs.Prelude.{◌≡◌, ◌≢◌, ℕ, Result}
use Rattle.std.proofs.Common.{Ok, Err}
use Rattle.service_machine.specs.Turning.{Choice}
use Rattle.service_machine.specs.Turning.Choice.{Advance, Compute, Empty as Lacks, Lags as Trails, Still as Rests}
use Rattle.svc_value.specs.declared.errors.OutOfMemory.{OutOfMemory}
use Rattle.node_core.specs.declared.turned.Turned.{Turned}
use Rattle.node_core.specs.declared.turned.Turned.TheVariants.{Computed, Advanced, Empty, Lags, Still}

-- this is the answer to what was chosen
abbrev pub IsAnswer : Choice → Turned → Type 0
IsAnswer (Advance p) answer = answer ≡ Advanced
IsAnswer Compute answer = answer ≡ Computed
IsAnswer (Lacks p) answer = answer ≡ Empty p
IsAnswer (Trails p key) answer = answer ≡ Lags p key
IsAnswer Rests answer = answer ≡ Still

-- it did nothing: no value was moved and none was computed
abbrev pub IsIdle : Turned → Type 0
IsIdle answer = (answer ≢ Advanced) × (answer ≢ Computed)

-- how many values it moved
abbrev pub moved_by : Turned → ℕ
moved_by Advanced = 1
moved_by answer = 0

abbrev pub moves_of : Result Turned OutOfMemory → ℕ
moves_of (Ok answer) = moved_by answer
moves_of (Err error) = 0
