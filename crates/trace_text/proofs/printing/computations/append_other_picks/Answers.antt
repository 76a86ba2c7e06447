use Rattle.trace_text.proofs.Growing.{kept_further}
use Rattle.trace_text.proofs.printing.computations.append_other_picks.Goals as goal

pub returns-in_err-append_number-clause-kept : goal.returns-in_err-append_number-clause-kept
returns-in_err-append_number-clause-kept c = kept_further c.args.out.now.items _ c.loop-pick.out.items c.extend_from_slice.new.self.items c.append_number.new.out.items _ c.loop-pick.invariant c.in_ok-extend_from_slice.ensures.items c.append_number.ensures.kept
