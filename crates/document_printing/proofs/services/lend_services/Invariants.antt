use Rattle.std.proofs.Common.{◌≡◌, take}
use Rattle.document_printing.specs.Canonical.{services_of}
use Rattle.document_printing.proofs.services.lend_services.Given as goal

abbrev pub invariant-loop-leg : goal.invariant-loop-leg
invariant-loop-leg l = l.services.items ≡ services_of (take l.leg-index l.legs)
