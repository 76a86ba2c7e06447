-- A call that ends an opened leg, made.
use Rattle.std.proofs.Common.{◌≡◌, subst, sym, true, Result, Ok}
use Rattle.std.specs.Prelude.{IfOk}
use Rattle.settle_core.specs.Net.{NetworkView}
use Rattle.settle_core.specs.Quiet.{is_quiet}
use Rattle.settle_core.specs.Workers.{HasBegun, SameLeg}
use Rattle.qprop_cli.specs.Inside.Calls.{EndsLegs}

module _ {F E : Type 0} {pre : F → NetworkView → Type 0} {post : F → NetworkView → Result NetworkView E → Type 0} {call : F} (can : EndsLegs pre post call) (opened taken : NetworkView) (is : taken ≡ opened) (begun : HasBegun opened) where
  -- it may be made of the network that was taken out
  pub call_takes : pre call taken
  call_takes = can.takes taken (subst HasBegun (sym is) begun)

  -- and what it hands back has ended the leg
  pub call_ends : (ended : NetworkView) (result : Result NetworkView E) → result ≡ Ok ended → post call taken result → SameLeg opened ended × (is_quiet ended ≡ true)
  call_ends ended result ok gave =
      let P : Result NetworkView E → Type 0 = λ r. IfOk r (λ after. SameLeg taken after × (is_quiet after ≡ true)) in
      let made : SameLeg taken ended × (is_quiet ended ≡ true) = subst P ok (can.ends taken result (subst HasBegun (sym is) begun) gave) in
      (subst (λ (n : NetworkView). SameLeg n ended) is made.0, made.1)
