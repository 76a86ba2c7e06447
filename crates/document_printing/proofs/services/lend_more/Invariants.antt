use Rattle.std.proofs.Common.{◌≡◌, ◌++◌, take}
use Rattle.document_printing.proofs.services.lend_more.Given as goal

abbrev pub invariant-loop-line : goal.invariant-loop-line
invariant-loop-line l = l.services.items ≡ l.fn.services.items ++ take l.line-index l.lines
