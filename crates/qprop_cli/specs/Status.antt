-- The exit status of the program.
use Rattle.std.specs.Prelude.{ℕ}
use Rattle.qprop_cli.specs.declared.outcome.Status.{Status}
use Rattle.qprop_cli.specs.declared.outcome.Status.TheVariants.{Done, Usage, Refused, ReadFault, WriteFault, OutOfMemory, KeepFault, NoState, BadState, Illegal}

-- 0 for a call that was done, and another number for each other end
abbrev pub exit_status : Status → ℕ
exit_status Done = 0
exit_status Usage = 1
exit_status (Refused refusal) = 2
exit_status ReadFault = 3
exit_status WriteFault = 4
exit_status OutOfMemory = 5
exit_status KeepFault = 6
exit_status NoState = 7
exit_status BadState = 8
exit_status Illegal = 9
