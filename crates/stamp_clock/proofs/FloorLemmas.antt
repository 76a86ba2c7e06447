-- A table as stamps.
use Rattle.std.proofs.Common.{◌≡◌, ℕ, zero, suc, ◌+◌, ◌<◌, ◌≤◌, max, ltb, List, [], ◌∷◌, length, get_or, set, Some, true, false, is_lt, nat_cmp, refl, sym, ap, ap₂, subst, ◌∙◌, inl, inr, arith, ◌==◌, get_or-set_same, get_or-set_other, length-set, All}
use Rattle.std.proofs.lemmas.Bool.{cases_Bool, cases_eq, cases_lt, cond-true, cond-false, eqb-false}
use Rattle.std.proofs.lemmas.Bool.Decides.{nat_tests}
use Rattle.std.proofs.lemmas.List.Elements.{All-nil, All-cons}
use Rattle.propagation.specs.Lists.{Has}
use Rattle.propagation.specs.Stamps.{Stamps, clock_of, IsRising}
use Rattle.service_machine.specs.States.{raise, raise_one}
use Rattle.service_machine.specs.Turning.{lag}
use Rattle.service_machine.proofs.Raising.{clock-this, clock-other, raise-rising, raise-clock, rising-same, rising-weaker}
use Rattle.propagation.proofs.Keys.{rising-clocks}
use Rattle.stamp_clock.specs.Beside.{AreStamps}
use Rattle.stamp_clock.proofs.RiseLemmas.{has-all}
use Rattle.stamp_clock.specs.Table.{raised_clocks}
use Rattle.stamp_clock.specs.TableOf.{raised_clocks-first, raised_clocks-rest}

pub raised_clocks-clock : (first : ℕ) (clocks : List ℕ) (i d : ℕ) → i < length clocks → clock_of (raised_clocks first clocks) (first + i) ≡ get_or clocks i d
raised_clocks-clock first [] i d lt = absurd (omega arith)
raised_clocks-clock first (clock ∷ rest) zero d lt = ap (clock_of (raised_clocks first (clock ∷ rest))) (omega arith) ∙ raised_clocks-first first clock rest
raised_clocks-clock first (clock ∷ rest) (suc i) d lt =
    raised_clocks-rest first clock rest (first + suc i) (omega arith) ∙ ap (clock_of (raised_clocks (suc first) rest)) (omega arith) ∙ raised_clocks-clock (suc first) rest i d (omega arith)

pub raised_clocks-above : (first : ℕ) (clocks : List ℕ) (q : ℕ) → first + length clocks ≤ q → clock_of (raised_clocks first clocks) q ≡ 0
raised_clocks-above first [] q le = refl
raised_clocks-above first (clock ∷ rest) q le = raised_clocks-rest first clock rest q (omega arith) ∙ raised_clocks-above (suc first) rest q (omega arith)

pub raised_clocks-rising : (first : ℕ) (clocks : List ℕ) → IsRising first (raised_clocks first clocks)
raised_clocks-rising first [] = tt
raised_clocks-rising first (clock ∷ rest) =
    elim (cases_Bool (clock == 0)) [
      | inl t ↦ subst (λ stamps. IsRising first stamps) (sym (cond-true (clock == 0) (raised_clocks (suc first) rest) ((first, clock) ∷ raised_clocks (suc first) rest) t))
          (rising-weaker first (suc first) (raised_clocks (suc first) rest) (omega arith) (raised_clocks-rising (suc first) rest))
      | inr t ↦ subst (λ stamps. IsRising first stamps) (sym (cond-false (clock == 0) (raised_clocks (suc first) rest) ((first, clock) ∷ raised_clocks (suc first) rest) t))
          (omega arith, (let some : clock ≡ 0 → ⊥ = eqb-false clock 0 t in omega arith), raised_clocks-rising (suc first) rest)
    ]

raised_clocks-within : (first n : ℕ) (clocks : List ℕ) → first + length clocks ≤ n → All {X = ℕ × ℕ} (λ pair. pair.0 < n) (raised_clocks first clocks)
raised_clocks-within first n [] le = All-nil {X = ℕ × ℕ} (λ pair. pair.0 < n)
raised_clocks-within first n (clock ∷ rest) le =
    elim (cases_Bool (clock == 0)) [
      | inl t ↦ subst (λ (S : Stamps). All {X = ℕ × ℕ} (λ pair. pair.0 < n) S) (sym (cond-true (clock == 0) (raised_clocks (suc first) rest) ((first, clock) ∷ raised_clocks (suc first) rest) t)) (raised_clocks-within (suc first) n rest (omega arith))
      | inr t ↦ subst (λ (S : Stamps). All {X = ℕ × ℕ} (λ pair. pair.0 < n) S) (sym (cond-false (clock == 0) (raised_clocks (suc first) rest) ((first, clock) ∷ raised_clocks (suc first) rest) t))
          (All-cons {X = ℕ × ℕ} (λ pair. pair.0 < n) (first, clock) (raised_clocks (suc first) rest) (omega arith) (raised_clocks-within (suc first) n rest (omega arith)))
    ]

-- the clocks of 64 services
pub raised_clocks-stamps : (clocks : List ℕ) → length clocks ≡ 64 → AreStamps (raised_clocks 0 clocks)
raised_clocks-stamps clocks all = record { rising = raised_clocks-rising 0 clocks; below = raised_clocks-within 0 64 clocks (omega arith) }

-- the clock of a service below 64
pub floor-clock : (clocks : List ℕ) (i d : ℕ) → i < length clocks → clock_of (raised_clocks 0 clocks) i ≡ get_or clocks i d
floor-clock clocks i d lt = ap (clock_of (raised_clocks 0 clocks)) (omega arith) ∙ raised_clocks-clock 0 clocks i d lt

pub floor-at : (clocks : List ℕ) (F : Stamps) (i q d : ℕ) → raised_clocks 0 clocks ≡ F → i ≡ q → i < length clocks → get_or clocks i d ≡ clock_of F q
floor-at clocks F i q d is same lt = sym (floor-clock clocks i d lt) ∙ ap₂ (λ (S : Stamps) (key : ℕ). clock_of S key) is same

pub floor-past : (clocks : List ℕ) (F : Stamps) (i q : ℕ) → raised_clocks 0 clocks ≡ F → i ≡ q → length clocks ≤ i → clock_of F q ≡ 0
floor-past clocks F i q is same le = sym (ap₂ (λ (S : Stamps) (key : ℕ). clock_of S key) is same) ∙ raised_clocks-above 0 clocks i (omega arith)

-- one clock is raised
pub raised_clocks-set : (clocks : List ℕ) (k c m : ℕ) → k < length clocks → 0 < c → m ≡ max (get_or clocks k 0) c → raised_clocks 0 (set clocks k m) ≡ raise_one (raised_clocks 0 clocks) k c
raised_clocks-set clocks k c m lt pos is =
    rising-same 0 0 (raised_clocks 0 (set clocks k m)) (raise (raised_clocks 0 clocks) ((k, c) ∷ [])) (raised_clocks-rising 0 (set clocks k m))
    (raise-rising (raised_clocks 0 clocks) k ((k, c) ∷ []) (raised_clocks-rising 0 clocks) (omega arith, pos, tt))
    (λ q. pointwise q ∙ sym (raise-clock (raised_clocks 0 clocks) k ((k, c) ∷ []) q (raised_clocks-rising 0 clocks) (omega arith, pos, tt)))
  where
    pointwise : (q : ℕ) → clock_of (raised_clocks 0 (set clocks k m)) q ≡ max (clock_of (raised_clocks 0 clocks) q) (clock_of ((k, c) ∷ []) q)
    pointwise q =
        elim (cases_eq q k) [
          | inl e ↦ subst (λ (p : ℕ). clock_of (raised_clocks 0 (set clocks k m)) p ≡ max (clock_of (raised_clocks 0 clocks) p) (clock_of ((k, c) ∷ []) p)) (sym e)
              (let after : clock_of (raised_clocks 0 (set clocks k m)) k ≡ m = floor-clock (set clocks k m) k 0 (omega (arith, length-set clocks k m)) ∙ get_or-set_same clocks k m 0 lt in
              let before : clock_of (raised_clocks 0 clocks) k ≡ get_or clocks k 0 = floor-clock clocks k 0 lt in
              let one : clock_of ((k, c) ∷ []) k ≡ c = clock-this k c [] k refl in
              omega arith)
          | inr ne ↦
              (let one : clock_of ((k, c) ∷ []) q ≡ 0 = clock-other k c [] q (λ e. ne (sym e)) in
              elim (cases_lt q (length clocks)) [
                | inl in_table ↦
                    (let after : clock_of (raised_clocks 0 (set clocks k m)) q ≡ get_or clocks q 0 = floor-clock (set clocks k m) q 0 (omega (arith, length-set clocks k m)) ∙ get_or-set_other clocks k q m 0 ne in
                    let before : clock_of (raised_clocks 0 clocks) q ≡ get_or clocks q 0 = floor-clock clocks q 0 in_table in omega arith)
                | inr out ↦
                    (let after : clock_of (raised_clocks 0 (set clocks k m)) q ≡ 0 = raised_clocks-above 0 (set clocks k m) q (omega (arith, length-set clocks k m)) in
                    let before : clock_of (raised_clocks 0 clocks) q ≡ 0 = raised_clocks-above 0 clocks q (omega arith) in omega arith)
              ])
        ]

-- ---- walks over stamps

-- the pairs that are left are of services below 64, with clocks of at least 1
abbrev pub ArePairs : Stamps → Type 0
ArePairs left = (x : ℕ × ℕ) → Has left x → (x.0 < 64) × (0 < x.1)

pub are-pairs : (S : Stamps) → AreStamps S → ArePairs S
are-pairs S are x h = (has-all {A = ℕ × ℕ} (λ pair. pair.0 < 64) S are.below x h, rising-clocks 0 S are.rising x h)

pub pairs-first : (left rest : Stamps) (x : ℕ × ℕ) → left ≡ x ∷ rest → ArePairs left → (x.0 < 64) × (0 < x.1)
pairs-first left rest x at are = are x (subst (λ (S : Stamps). Has S x) (sym at) (inl refl))

pub pairs-rest : (left rest : Stamps) (x : ℕ × ℕ) → left ≡ x ∷ rest → ArePairs left → ArePairs rest
pairs-rest left rest x at are y h = are y (subst (λ (S : Stamps). Has S y) (sym at) (inr h))

less-test : (a b : ℕ) → is_lt (nat_cmp a b) ≡ ltb a b
less-test a b = grind (arith, nat_tests)

-- a pair that does not lag is passed over
pub lag-on : (F left rest T : Stamps) (k c n : ℕ) → left ≡ (k, c) ∷ rest → lag F left ≡ lag F T → n ≡ clock_of F k → is_lt (nat_cmp c n) ≡ false → lag F rest ≡ lag F T
lag-on F left rest T k c n at same is t =
    sym (cond-false (ltb c (clock_of F k)) (Some k) (lag F rest) (ap (ltb c) (sym is) ∙ sym (less-test c n) ∙ t))
    ∙ ap (lag F) (sym at) ∙ same

-- and the first that does is the answer
pub lag-here : (F left rest T : Stamps) (k c n : ℕ) → left ≡ (k, c) ∷ rest → lag F left ≡ lag F T → n ≡ clock_of F k → is_lt (nat_cmp c n) ≡ true → Some k ≡ lag F T
lag-here F left rest T k c n at same is t =
    sym (cond-true (ltb c (clock_of F k)) (Some k) (lag F rest) (ap (ltb c) (sym is) ∙ sym (less-test c n) ∙ t))
    ∙ ap (lag F) (sym at) ∙ same
