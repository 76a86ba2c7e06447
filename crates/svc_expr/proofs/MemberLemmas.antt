-- Going over members from left to right.
use Rattle.std.proofs.Common.{◌≡◌, ℕ, suc, sym, ◌+◌, ◌<◌, ℤ, List, ◌∷◌, length, get_or, drop, fold, Option, Some, None, ap, ◌∙◌, add-one}
use Rattle.std.proofs.Math.Seq.{drop-cons}
use Rattle.std.specs.Int.{int_min, int_max}
use Rattle.svc_value.specs.declared.value.Value.{Value}
use Rattle.svc_value.specs.declared.value.Value.TheVariants.{Int}
use Rattle.svc_expr.specs.Meaning.{least, greatest}

-- what is left of a list begins with the member at hand
pub from_here : (members : List Value) (i : ℕ) (member : Value) → i < length members → member ≡ get_or members i member → drop i members ≡ member ∷ drop (i + 1) members
from_here members i member h e =
    rw (add-one) (drop-cons members i member h ∙ ap (λ (x : Value). x ∷ drop (suc i) members) (sym e))

-- the least of a number that was found, if any, and of more numbers
abbrev pub least_from : Option ℤ → List ℤ → Value
least_from None zs = least zs
least_from (Some z) zs = Int (fold int_min z zs)

-- the greatest of a number that was found, if any, and of more numbers
abbrev pub greatest_from : Option ℤ → List ℤ → Value
greatest_from None zs = greatest zs
greatest_from (Some z) zs = Int (fold int_max z zs)
