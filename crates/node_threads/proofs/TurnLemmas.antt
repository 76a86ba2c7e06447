-- What a turn's answer tells of its choice.
use Rattle.std.proofs.Common.{◌≡◌, ap, sym}
use Rattle.service_machine.specs.Draining.{is_work}
use Rattle.service_machine.specs.Turning.{Choice}
use Rattle.service_machine.specs.Turning.Choice.{Advance, Compute, Empty as Lacks, Lags as Trails, Still as Rests}
use Rattle.node_core.specs.Answers.{IsAnswer}
use Rattle.node_core.specs.declared.turned.Turned.{Turned}
use Rattle.node_threads.specs.Turns.{is_busy}

pub busy_is_work : (choice : Choice) (answer : Turned) → IsAnswer choice answer → is_work choice ≡ is_busy answer
busy_is_work (Advance p) answer is = sym (ap is_busy is)
busy_is_work Compute answer is = sym (ap is_busy is)
busy_is_work (Lacks p) answer is = sym (ap is_busy is)
busy_is_work (Trails p key) answer is = sym (ap is_busy is)
busy_is_work Rests answer is = sym (ap is_busy is)
