use Rattle.std.proofs.Common.{length, sym, ◌∙◌}
use Rattle.trace_text.proofs.Walking.{named-rest}
use Rattle.trace_text.proofs.printing.sources.append_keys.Goals as goal

pub append_other_keys-requires : goal.append_other_keys-requires
append_other_keys-requires c = named-rest (length c.args.book.now) c.args.stamps.now _ c.next.new.self (sym c.iter-pairs.ensures.pairs ∙ c.in-Some.ensures.steps) c.requires
