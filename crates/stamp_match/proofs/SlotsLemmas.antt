-- Walks over slots.
use Rattle.std.proofs.Common.{◌≡◌, ℕ, zero, suc, ◌<◌, true, false, List, [], ◌∷◌, drop, length, slice_get, get_or, Option, is_some, option_copied, Bor, Some, None, option_map, refl, sym, ap, ◌∙◌, arith}
use Rattle.std.proofs.lemmas.Bool.{cond-true}
use Rattle.std.proofs.lemmas.Option.{same_Some}
use Rattle.propagation.specs.Stamps.{Stamps}
use Rattle.propagation.specs.Logs.{Emission}
use Rattle.service_machine.specs.States.{Slot, Head, has_next, emission_of}
use Rattle.service_machine.specs.Turning.{waiting, headless, if_headless, lagging, head_lag, if_lagging, lag}

-- a lent head that is not there is none
pub none-copied : {A : Type 0} (o : Option (Bor A)) → is_some o ≡ false → option_copied o ≡ None
none-copied None e = refl
none-copied (Some x) e = absurd (cc e)

module _ {V : Type 0} where
  pub waiting-at : (xs : List (Slot V)) (i : ℕ) (x : Slot V) → i < length xs → x ≡ get_or xs i x → has_next x ≡ true → waiting (drop i xs) ≡ slice_get xs i
  waiting-at [] i x lt is next = absurd (omega arith)
  waiting-at (y ∷ rest) zero x lt is next = cond-true (has_next y) (Some y) (waiting rest) (ap (λ (z : Slot V). has_next z) (sym is) ∙ next)
  waiting-at (y ∷ rest) (suc i) x lt is next = waiting-at rest i x (omega arith) is next

  pub headless-at : (xs : List (Slot V)) (i : ℕ) (x : Slot V) → i < length xs → x ≡ get_or xs i x → emission_of x.head ≡ None → headless (drop i xs) ≡ slice_get xs i
  headless-at [] i x lt is gone = absurd (omega arith)
  headless-at (y ∷ rest) zero x lt is gone = go y.head (ap (λ (z : Slot V). emission_of z.head) (sym is) ∙ gone)
    where
      go : (o : Option (Head V)) → emission_of o ≡ None → if_headless o y (headless rest) ≡ Some y
      go None e = refl
      go (Some h) e = absurd (cc e)
  headless-at (y ∷ rest) (suc i) x lt is gone = headless-at rest i x (omega arith) is gone

  pub lagging-at : (greatest_clocks : Stamps) (xs : List (Slot V)) (i : ℕ) (x : Slot V) (m : Emission V) (key : ℕ) → i < length xs → x ≡ get_or xs i x → emission_of x.head ≡ Some m → lag greatest_clocks m.stamps ≡ Some key →
      lagging greatest_clocks (drop i xs) ≡ option_map (λ (s : Slot V). (s, key)) (slice_get xs i)
  lagging-at greatest_clocks [] i x m key lt is some late = absurd (omega arith)
  lagging-at greatest_clocks (y ∷ rest) zero x m key lt is some late = go y.head (ap (λ (z : Slot V). emission_of z.head) (sym is) ∙ some)
    where
      go : (o : Option (Head V)) → emission_of o ≡ Some m → if_lagging (head_lag greatest_clocks o) y (lagging greatest_clocks rest) ≡ Some (y, key)
      go None e = absurd (cc e)
      go (Some h) e = ap (λ o. if_lagging o y (lagging greatest_clocks rest)) (ap (λ (k : Emission V). lag greatest_clocks k.stamps) (same_Some h.emission m e) ∙ late)
  lagging-at greatest_clocks (y ∷ rest) (suc i) x m key lt is some late = lagging-at greatest_clocks rest i x m key (omega arith) is some late
