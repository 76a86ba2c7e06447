use Rattle.std.proofs.Common.{◌≡◌, ◌∙◌, All, length, subst, sym, ap}
use Rattle.document_printing.specs.Canonical.{services_of, IsPrintable}
use Rattle.document_printing.proofs.CanonicalLegs.{printable}
use Rattle.document_printing.proofs.printing.print_document.Goals as goal

pub append_legs-requires : goal.append_legs-requires
append_legs-requires c =
    let legs : c.as_slice-legs.result.now ≡ c.args.plan.now.legs = c.as_slice-legs.ensures in
    let services : c.deref.result.now ≡ services_of c.args.plan.now.legs = c.deref.ensures.value ∙ c.in_ok-services.ensures ∙ ap services_of legs in
    subst (λ ls. All (λ leg. All (IsPrintable (length c.deref.result.now)) leg.changes) ls) (sym legs)
    (subst (λ ss. All (λ leg. All (IsPrintable (length ss)) leg.changes) c.args.plan.now.legs) (sym services) (printable c.args.plan.now.legs c.requires))
