-- Which heads lag, as greatest clocks rise.
use Rattle.std.proofs.Common.{◌≡◌, ℕ, suc, ◌<◌, ◌≤◌, max, Bool, true, ◌||◌, ltb, nat_lt, if◌then◌else◌, [], ◌∷◌, Option, is_some, Some, None, refl, sym, ap, ap₂, ◌∙◌, inl, inr, arith}
use Rattle.std.proofs.Math.Bool.{or-true, or-false}
use Rattle.std.proofs.lemmas.Bool.{cases_eq, cases_lt}
use Rattle.std.proofs.lemmas.Bool.Decides.{nat_tests}
use Rattle.propagation.specs.Stamps.{Stamps, clock_of, IsRising}
use Rattle.service_machine.specs.States.{raise_one}
use Rattle.service_machine.specs.Turning.{lag}
use Rattle.service_machine.proofs.Raising.{clock-this, clock-other, raise-clock, raise-rising, rising-same}
use Rattle.service_machine.proofs.Table.{lag-none}
use Rattle.stamp_match.specs.Kept.{clock_in, lags, IsRisingHead, IsFollowed}

-- a lag rests on the clocks alone
pub lag-same : (T R S : Stamps) → ((q : ℕ) → clock_of T q ≡ clock_of R q) → lag T S ≡ lag R S
lag-same T R [] same = refl
lag-same T R (x ∷ rest) same = ap₂ (λ (b : Bool) (o : Option ℕ). if b then Some x.0 else o) (ap (ltb x.1) (same x.0)) (lag-same T R rest same)

-- the clock of a key that is not there may change
pub lag-without : (T R : Stamps) (k least : ℕ) (S : Stamps) → IsRising least S → clock_of S k ≡ 0 → ((q : ℕ) → (k ≡ q → ⊥) → clock_of T q ≡ clock_of R q) → lag T S ≡ lag R S
lag-without T R k least [] r none same = refl
lag-without T R k least (x ∷ rest) r none same =
    elim (cases_eq x.0 k) [
      | inl e ↦ absurd (let is : clock_of (x ∷ rest) k ≡ x.1 = clock-this x.0 x.1 rest k e in let pos : 0 < x.1 = r.1 in omega arith)
      | inr ne ↦ ap₂ (λ (b : Bool) (o : Option ℕ). if b then Some x.0 else o) (ap (ltb x.1) (same x.0 (λ e. ne (sym e))))
          (lag-without T R k (suc x.0) rest r.2 (sym (clock-other x.0 x.1 rest k ne) ∙ none) same)
    ]

-- one clock is raised
module _ (T : Stamps) (k c : ℕ) (rising : IsRising 0 T) (pos : 0 < c) where
  one : (q : ℕ) → clock_of (raise_one T k c) q ≡ max (clock_of T q) (clock_of ((k, c) ∷ []) q)
  one q = raise-clock T k ((k, c) ∷ []) q rising (omega arith, pos, tt)

  pub one-rising : IsRising 0 (raise_one T k c)
  one-rising = raise-rising T k ((k, c) ∷ []) rising (omega arith, pos, tt)

  pub one-this : clock_of (raise_one T k c) k ≡ max (clock_of T k) c
  one-this = let this : clock_of ((k, c) ∷ []) k ≡ c = clock-this k c [] k refl in one k ∙ ap (max (clock_of T k)) this

  pub one-other : (q : ℕ) → (k ≡ q → ⊥) → clock_of T q ≡ clock_of (raise_one T k c) q
  one-other q ne = let other : clock_of ((k, c) ∷ []) q ≡ 0 = clock-other k c [] q ne in let is : clock_of (raise_one T k c) q ≡ max (clock_of T q) (clock_of ((k, c) ∷ []) q) = one q in omega arith

  pub one-within : (q : ℕ) → clock_of T q ≤ clock_of (raise_one T k c) q
  one-within q = let is : clock_of (raise_one T k c) q ≡ max (clock_of T q) (clock_of ((k, c) ∷ []) q) = one q in omega arith

  -- nothing changes where the clock was as great
  pub one-same : c ≤ clock_of T k → (q : ℕ) → clock_of T q ≡ clock_of (raise_one T k c) q
  one-same le q =
      elim (cases_eq k q) [
        | inl e ↦ (let this : clock_of ((k, c) ∷ []) q ≡ c = clock-this k c [] q e in let at : clock_of T k ≡ clock_of T q = ap (clock_of T) e in let is : clock_of (raise_one T k c) q ≡ max (clock_of T q) (clock_of ((k, c) ∷ []) q) = one q in omega arith)
        | inr ne ↦ one-other q ne
      ]

  pub one-kept : c ≤ clock_of T k → T ≡ raise_one T k c
  one-kept le = rising-same 0 0 T (raise_one T k c) rising one-rising (one-same le)

  -- a head that has the key lags then, and another does where it did
  pub flag-raised_clocks : (head : Option Stamps) → clock_of T k < c → IsRisingHead head → clock_in head k ≤ clock_of T k → (lags T head || nat_lt 0 (clock_in head k)) ≡ lags (raise_one T k c) head
  flag-raised_clocks None lt r within = refl
  flag-raised_clocks (Some S) lt r within =
      elim (cases_lt 0 (clock_of S k)) [
        | inl has ↦ ap (λ b. lags T (Some S) || b) (has-key (clock_of S k) has) ∙ or-true (lags T (Some S)) ∙ sym (go (lag (raise_one T k c) S) refl has)
        | inr none ↦
            (let gone : clock_of S k ≡ 0 = omega arith in
            ap (λ n. lags T (Some S) || nat_lt 0 n) gone ∙ or-false (lags T (Some S)) ∙ ap is_some (lag-without T (raise_one T k c) k 0 S r gone one-other))
      ]
    where
      has-key : (n : ℕ) → 0 < n → nat_lt 0 n ≡ true
      has-key n h = grind (arith, nat_tests)

      go : (o : Option ℕ) → lag (raise_one T k c) S ≡ o → 0 < clock_of S k → is_some o ≡ true
      go None e has = absurd (let le : clock_of (raise_one T k c) k ≤ clock_of S k = lag-none (raise_one T k c) S e k has in let is : clock_of (raise_one T k c) k ≡ max (clock_of T k) c = one-this in omega arith)
      go (Some key) e has = refl

  pub followed-raised_clocks : (flag new : Bool) (head : Option Stamps) → clock_of T k < c → new ≡ (flag || nat_lt 0 (clock_in head k)) → IsFollowed T flag head → IsFollowed (raise_one T k c) new head
  followed-raised_clocks flag new head lt is h = record {
    rising = h.rising;
    within = λ q. let a : clock_in head q ≤ clock_of T q = h.within q in let b : clock_of T q ≤ clock_of (raise_one T k c) q = one-within q in omega arith;
    flag = is ∙ ap (λ b. b || nat_lt 0 (clock_in head k)) h.flag ∙ flag-raised_clocks head lt h.rising (h.within k);
  }
