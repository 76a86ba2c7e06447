use Rattle.std.proofs.Common.{◌≡◌, ◌++◌, codes, flat_map, map, take}
use Rattle.document_printing.specs.Canonical.{name_of}
use Rattle.document_printing.proofs.printing.append_over.Given as goal

abbrev pub invariant-loop-id : goal.invariant-loop-id
invariant-loop-id l = l.out.items ≡ l.initial.out.items ++ flat_map (λ name. codes ", " ++ name) (map (name_of l.services) (take l.id-index l.others))
