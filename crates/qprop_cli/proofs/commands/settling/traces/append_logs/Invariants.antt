use Rattle.std.proofs.Common.{◌≡◌, ◌++◌, take}
use Rattle.trace_text.specs.Lines.{logs_text}
use Rattle.trace_text.specs.Named.{naming}
use Rattle.qprop_cli.specs.Commands.Step.{logs_of}
use Rattle.qprop_cli.proofs.commands.settling.traces.append_logs.Given as goal

abbrev pub invariant-loop-i : goal.invariant-loop-i
invariant-loop-i l = l.out.items ≡ l.fn.out.items ++ logs_text (naming l.network.rows) 0 (logs_of (take l.i l.network.services))
