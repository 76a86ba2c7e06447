use Rattle.std.proofs.Common.{◌≡◌, ◌++◌, take}
use Rattle.trace_text.specs.Notes.{sources_lines}
use Rattle.trace_text.specs.Named.{naming}
use Rattle.qprop_cli.specs.Commands.Step.{all_sources}
use Rattle.qprop_cli.proofs.commands.settling.traces.append_sources.Given as goal

abbrev pub invariant-loop-i : goal.invariant-loop-i
invariant-loop-i l = l.out.items ≡ l.fn.out.items ++ sources_lines (naming l.network.rows) 0 (all_sources (take l.i l.network.services))
