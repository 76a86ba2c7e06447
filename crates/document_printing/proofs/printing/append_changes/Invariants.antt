use Rattle.std.proofs.Common.{◌≡◌, ◌++◌, map, take}
use Rattle.document_printing.specs.Canonical.{change_text, with_line_ends}
use Rattle.document_printing.proofs.printing.append_changes.Given as goal

abbrev pub invariant-loop-change : goal.invariant-loop-change
invariant-loop-change l = l.out.items ≡ l.fn.out.items ++ with_line_ends (map (λ change. change_text l.services change.id change.change) (take l.change-index l.changes))
