-- Values that are read.
use Rattle.std.proofs.Common.{◌≡◌, ℕ, ◌-◌, List, ◌++◌, length, take, drop, sym, ap, ◌∙◌, arith}
use Rattle.std.proofs.lemmas.List.{take-append-drop, take_all, length-drop}
use Rattle.std.proofs.Math.Seq.{take-append_seam}
use Rattle.svc_value.specs.declared.taken.ValueReason.{ValueReason}
use Rattle.svc_value.proofs.ValuePlaces.{one_value}
use Rattle.svc_value.specs.declared.value.Value.{Value}
use Rattle.svc_value.specs.Layout.{layout, IsWithin}
use Rattle.svc_value.specs.Taken.{IsAtFront, IsBadValue}

pub value_is : (bytes : List ℕ) (v found : Value) (len : ℕ) (more : List ℕ) → IsAtFront bytes found len → IsWithin v → bytes ≡ layout v ++ more → (found ≡ v) × (drop len bytes ≡ more)
value_is bytes v found len more front within e =
    one_value found v (drop len bytes) more front.layout.within within
    (ap (λ l. l ++ drop len bytes) (sym front.layout.bytes_are) ∙ take-append-drop len bytes ∙ e)

pub value_there : (bytes : List ℕ) (v : Value) (more : List ℕ) (place : ℕ) (reason : ValueReason) → IsWithin v → bytes ≡ layout v ++ more → IsBadValue bytes place reason → ⊥
value_there bytes v more place reason within e bad =
    bad.none (length (layout v)) (v, record { within = within; bytes_are = ap (take (length (layout v))) e ∙ take-append_seam (layout v) more })

pub rest_whole : (len : ℕ) (bytes : List ℕ) → take (length bytes - len) (drop len bytes) ≡ drop len bytes
rest_whole len bytes = take_all (length bytes - len) (drop len bytes) (omega (arith, length-drop len bytes))
