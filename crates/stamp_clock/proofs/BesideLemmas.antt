-- Keys with their clocks in a list beside them.
use Rattle.std.proofs.Common.{◌≡◌, ℕ, zero, suc, ◌<◌, ◌≤◌, List, [], ◌∷◌, length, get_or, All, refl, ap, subst, ◌==◌, eqb-true, ◌∙◌, inl, inr, arith}
use Rattle.std.proofs.lemmas.List.Elements.{All-nil, All-cons, All-head, All-tail}
use Rattle.std.specs.List.{zip}
use Rattle.std.proofs.lemmas.Bool.{eqb-false, cases_Bool, cond-false}
use Rattle.propagation.proofs.ByTest.{by_test}
use Rattle.propagation.specs.Lists.{Has}
use Rattle.propagation.specs.Stamps.{clock_of, keys, IsRising, Rise}
use Rattle.service_machine.proofs.Raising.{clock-this, clock-other}
use Rattle.stamp_clock.specs.Beside.{AreBeside, AreStamps, clocks}
use Rattle.stamp_clock.proofs.RiseLemmas.{rise-least, has-get}

pub length-beside : (ks cs : List ℕ) → length ks ≡ length cs → length (zip ks cs) ≡ length ks
length-beside [] cs e = refl
length-beside (k ∷ ks) [] e = absurd (omega arith)
length-beside (k ∷ ks) (c ∷ cs) e = omega (arith, length-beside ks cs (omega arith))

pub beside-none : (ks cs : List ℕ) → length cs ≡ 0 → zip ks cs ≡ []
beside-none [] cs e = refl
beside-none (k ∷ ks) [] e = refl
beside-none (k ∷ ks) (c ∷ cs) e = absurd (omega arith)

pub keys-beside : (ks cs : List ℕ) → length ks ≡ length cs → keys (zip ks cs) ≡ ks
keys-beside [] cs e = refl
keys-beside (k ∷ ks) [] e = absurd (omega arith)
keys-beside (k ∷ ks) (c ∷ cs) e = ap (λ (rest : List ℕ). k ∷ rest) (keys-beside ks cs (omega arith))

pub clocks-beside : (ks cs : List ℕ) → length ks ≡ length cs → clocks (zip ks cs) ≡ cs
clocks-beside [] [] e = refl
clocks-beside [] (c ∷ cs) e = absurd (omega arith)
clocks-beside (k ∷ ks) [] e = absurd (omega arith)
clocks-beside (k ∷ ks) (c ∷ cs) e = ap (λ (rest : List ℕ). c ∷ rest) (clocks-beside ks cs (omega arith))

-- stamps rise
pub rising-beside : (a : ℕ) (ks cs : List ℕ) → Rise a ks → All (λ c. 0 < c) cs → IsRising a (zip ks cs)
rising-beside a [] cs r pos = tt
rising-beside a (k ∷ ks) [] r pos = tt
rising-beside a (k ∷ ks) (c ∷ cs) r pos = (r.0, All-head (λ n. 0 < n) c cs pos, rising-beside (suc k) ks cs r.1 (All-tail (λ n. 0 < n) c cs pos))

below-beside : (ks cs : List ℕ) → All (λ k. k < 64) ks → All {X = ℕ × ℕ} (λ pair. pair.0 < 64) (zip ks cs)
below-beside [] cs all = All-nil {X = ℕ × ℕ} (λ pair. pair.0 < 64)
below-beside (k ∷ ks) [] all = All-nil {X = ℕ × ℕ} (λ pair. pair.0 < 64)
below-beside (k ∷ ks) (c ∷ cs) all =
    All-cons {X = ℕ × ℕ} (λ pair. pair.0 < 64) (k, c) (zip ks cs) (All-head (λ n. n < 64) k ks all) (below-beside ks cs (All-tail (λ n. n < 64) k ks all))

pub are-stamps : (ks cs : List ℕ) → AreBeside ks cs → AreStamps (zip ks cs)
are-stamps ks cs b = record { rising = rising-beside 0 ks cs b.are_keys.rise b.positive; below = below-beside ks cs b.are_keys.below }

-- a key has the clock at its place
pub clock-at : (a : ℕ) (ks cs : List ℕ) (i d q : ℕ) → Rise a ks → length ks ≡ length cs → i < length ks → get_or ks i 0 ≡ q → clock_of (zip ks cs) q ≡ get_or cs i d
clock-at a [] cs i d q r e lt is = absurd (omega arith)
clock-at a (k ∷ ks) [] i d q r e lt is = absurd (omega arith)
clock-at a (k ∷ ks) (c ∷ cs) zero d q r e lt is = clock-this k c (zip ks cs) q is
clock-at a (k ∷ ks) (c ∷ cs) (suc i) d q r e lt is =
    let above : suc k ≤ q = subst (λ n. suc k ≤ n) is (rise-least (suc k) ks (get_or ks i 0) r.1 (has-get ks i 0 (omega arith))) in
    clock-other k c (zip ks cs) q (λ same. omega arith) ∙ clock-at (suc k) ks cs i d q r.1 (omega arith) (omega arith) is

-- and no other has one
pub clock-missing : (ks cs : List ℕ) (q : ℕ) → (Has ks q → ⊥) → clock_of (zip ks cs) q ≡ 0
clock-missing [] cs q none = refl
clock-missing (k ∷ ks) [] q none = refl
clock-missing (k ∷ ks) (c ∷ cs) q none = clock-other k c (zip ks cs) q (λ e. none (inl e)) ∙ clock-missing ks cs q (λ h. none (inr h))

pub clock-positive : (ks cs : List ℕ) (q : ℕ) → length ks ≡ length cs → All (λ c. 0 < c) cs → Has ks q → 0 < clock_of (zip ks cs) q
clock-positive [] cs q e pos h = absurd h
clock-positive (k ∷ ks) [] q e pos h = absurd (omega arith)
clock-positive (k ∷ ks) (c ∷ cs) q e pos h =
    by_test (k == q) (λ n. 0 < n) (λ t. All-head (λ n. 0 < n) c cs pos)
    (λ t. elim h [ inl same ↦ absurd (eqb-false k q t same) | inr there ↦ clock-positive ks cs q (omega arith) (All-tail (λ n. 0 < n) c cs pos) there ])

pub has-clock : (ks cs : List ℕ) (q : ℕ) → 0 < clock_of (zip ks cs) q → Has ks q
has-clock [] cs q h = absurd (omega arith)
has-clock (k ∷ ks) [] q h = absurd (omega arith)
has-clock (k ∷ ks) (c ∷ cs) q h =
    elim (cases_Bool (k == q)) [
      | inl t ↦ inl (eqb-true k q t)
      | inr t ↦ inr (has-clock ks cs q (subst (λ n. 0 < n) (cond-false (k == q) c (clock_of (zip ks cs) q) t) h))
    ]
