use Rattle.std.proofs.Common.{◌≡◌, ◌++◌, take, flat_map}
use Rattle.trace_text.specs.Named.{naming}
use Rattle.trace_text.specs.Lines.{entry_line}
use Rattle.trace_text.proofs.printing.logs.append_log.Given as goal

abbrev pub invariant-loop-entry : goal.invariant-loop-entry
invariant-loop-entry l = l.out.items ≡ l.fn.out.items ++ flat_map (entry_line (naming l.book) l.id) (take l.entry-index l.log)
