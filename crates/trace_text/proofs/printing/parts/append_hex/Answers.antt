use Rattle.std.proofs.Common.{◌∙◌}
use Rattle.trace_text.proofs.Growing.{begins}
use Rattle.trace_text.proofs.printing.parts.append_hex.Goals as goal

pub returns-in_err-extend_from_slice-clause-kept : goal.returns-in_err-extend_from_slice-clause-kept
returns-in_err-extend_from_slice-clause-kept c = begins c.args.out.now.items _ c.extend_from_slice.new.self.items (c.in_err-extend_from_slice.ensures.items ∙ c.loop-byte.invariant)

pub returns-clause-kept : goal.returns-clause-kept
returns-clause-kept c = begins c.args.out.now.items _ c.loop-byte.out.items c.loop-byte.invariant
