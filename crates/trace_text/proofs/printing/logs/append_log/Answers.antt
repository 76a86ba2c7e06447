use Rattle.trace_text.proofs.Growing.{starts_further}
use Rattle.trace_text.proofs.printing.logs.append_log.Goals as goal

pub returns-in_err-append_entry-clause-kept : goal.returns-in_err-append_entry-clause-kept
returns-in_err-append_entry-clause-kept c = starts_further c.args.out.now.items _ c.loop-entry.out.items c.append_entry.new.out.items c.loop-entry.invariant c.append_entry.ensures.kept
