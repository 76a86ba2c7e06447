use Rattle.std.proofs.Common.{◌≡◌, ◌∙◌, ◌*◌, ℕ, List, Some, slice_get, ap, subst, sym}
use Rattle.std.proofs.lemmas.List.{take_rest}
use Rattle.wire_frame.specs.Lent.{keys_in}
use Rattle.wire_frame.proofs.Lending.{keys_element}
use Rattle.wire_frame.proofs.keys_ref.KeysRef.at.Goals as goal

pub returns : goal.returns
returns c =
    let bytes = c.self.inside.bytes.now in
    let i = c.args.i in
    let first = ap keys_in (sym (take_rest bytes (2 * i))) ∙ c.in-Some.ensures.some in
    subst (λ (xs : List ℕ). slice_get xs i ≡ Some c.in-Some.key) c.self.view_is (keys_element i bytes c.in-Some.key _ first)
