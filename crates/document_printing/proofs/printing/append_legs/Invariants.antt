use Rattle.std.proofs.Common.{◌≡◌, ◌++◌, flat_map, take}
use Rattle.document_printing.specs.Canonical.{leg_lines, with_line_ends}
use Rattle.document_printing.proofs.printing.append_legs.Given as goal

abbrev pub invariant-loop-leg : goal.invariant-loop-leg
invariant-loop-leg l = l.out.items ≡ l.fn.out.items ++ with_line_ends (flat_map (leg_lines l.services) (take l.leg-index l.legs))
