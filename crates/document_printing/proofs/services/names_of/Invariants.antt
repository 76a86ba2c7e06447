use Rattle.std.proofs.Common.{◌≡◌, map, take}
use Rattle.document_printing.specs.Canonical.{name_of}
use Rattle.document_printing.proofs.services.names_of.Given as goal

abbrev pub invariant-loop-id : goal.invariant-loop-id
invariant-loop-id l = l.names ≡ map (name_of l.services) (take l.id-index l.ids)
