use Rattle.std.proofs.Common.{◌∙◌, ◌++◌, ap, List, ℕ}
use Rattle.trace_text.specs.Named.{naming}
use Rattle.trace_text.proofs.Walking.{keys_comma_list}
use Rattle.trace_text.proofs.printing.sources.append_names.Goals as goal

pub returns-clause-ok : goal.returns-clause-ok
returns-clause-ok c = c.in_ok-append_keys.ensures.ok ∙ ap (λ (t : List ℕ). c.args.out.now.items ++ t) (keys_comma_list (naming c.args.book.now) c.args.stamps.now)
