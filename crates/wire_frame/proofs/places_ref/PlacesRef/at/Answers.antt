use Rattle.std.proofs.Common.{◌≡◌, ◌∙◌, ◌*◌, List, Some, slice_get, ap, subst, sym}
use Rattle.std.proofs.lemmas.List.{take_rest}
use Rattle.wire_frame.specs.declared.place_clock.PlaceClock.{PlaceClock}
use Rattle.wire_frame.specs.Lent.{named_in}
use Rattle.wire_frame.proofs.Lending.{named_element}
use Rattle.wire_frame.proofs.places_ref.PlacesRef.at.Goals as goal

pub returns : goal.returns
returns c =
    let bytes = c.self.inside.bytes.now in
    let i = c.args.i in
    let first = ap named_in (sym (take_rest bytes (5 * i))) ∙ c.in-Some.ensures.some in
    subst (λ (xs : List PlaceClock). slice_get xs i ≡ Some c.in-Some.named) c.self.view_is (named_element i bytes c.in-Some.named _ first)
