-- The table of a floor.
use Rattle.std.specs.Prelude.{ℕ, zero, suc, List, [], ◌∷◌, ◌≡◌, ◌==◌, ◌<◌, ◌≤◌, length}
use Rattle.std.proofs.Common.{ap, ap₂, sym, refl, ◌∙◌, arith, eqb-true, inl, inr}
use Rattle.std.proofs.lemmas.Bool.{cases_Bool, cond-true, cond-false}
use Rattle.propagation.specs.Stamps.{Stamps, clock_of}
use Rattle.service_machine.proofs.Raising.{clock-this, clock-other}
use Rattle.stamp_clock.specs.Table.{raised_clocks}
use Rattle.stamp_clock.specs.declared.floor.Floor.TheInside.{Inside}
use Rattle.svc_value.specs.declared.limits.TheConstants.{MAX_SERVICES}

-- the clocks of n services from `first` on
unfoldable pub table_of : ℕ → ℕ → Stamps → List ℕ
table_of zero first stamps = []
table_of (suc n) first stamps = clock_of stamps first ∷ table_of n (suc first) stamps

-- what the table has before a place has no clock
pub raised_clocks-below : (first : ℕ) (clocks : List ℕ) (q : ℕ) → q < first → clock_of (raised_clocks first clocks) q ≡ 0
raised_clocks-below first [] q lt = refl
raised_clocks-below first (clock ∷ rest) q lt =
    elim (cases_Bool (clock == 0)) [
      | inl t ↦ ap (λ stamps. clock_of stamps q) (cond-true (clock == 0) (raised_clocks (suc first) rest) ((first, clock) ∷ raised_clocks (suc first) rest) t) ∙ raised_clocks-below (suc first) rest q (omega arith)
      | inr t ↦ ap (λ stamps. clock_of stamps q) (cond-false (clock == 0) (raised_clocks (suc first) rest) ((first, clock) ∷ raised_clocks (suc first) rest) t)
          ∙ clock-other first clock (raised_clocks (suc first) rest) q (λ e. omega arith) ∙ raised_clocks-below (suc first) rest q (omega arith)
    ]

pub raised_clocks-first : (first clock : ℕ) (rest : List ℕ) → clock_of (raised_clocks first (clock ∷ rest)) first ≡ clock
raised_clocks-first first clock rest =
    elim (cases_Bool (clock == 0)) [
      | inl t ↦ ap (λ stamps. clock_of stamps first) (cond-true (clock == 0) (raised_clocks (suc first) rest) ((first, clock) ∷ raised_clocks (suc first) rest) t)
          ∙ raised_clocks-below (suc first) rest first (omega arith) ∙ sym (eqb-true clock 0 t)
      | inr t ↦ ap (λ stamps. clock_of stamps first) (cond-false (clock == 0) (raised_clocks (suc first) rest) ((first, clock) ∷ raised_clocks (suc first) rest) t)
          ∙ clock-this first clock (raised_clocks (suc first) rest) first refl
    ]

pub raised_clocks-rest : (first clock : ℕ) (rest : List ℕ) (q : ℕ) → first < q → clock_of (raised_clocks first (clock ∷ rest)) q ≡ clock_of (raised_clocks (suc first) rest) q
raised_clocks-rest first clock rest q lt =
    elim (cases_Bool (clock == 0)) [
      | inl t ↦ ap (λ stamps. clock_of stamps q) (cond-true (clock == 0) (raised_clocks (suc first) rest) ((first, clock) ∷ raised_clocks (suc first) rest) t)
      | inr t ↦ ap (λ stamps. clock_of stamps q) (cond-false (clock == 0) (raised_clocks (suc first) rest) ((first, clock) ∷ raised_clocks (suc first) rest) t)
          ∙ clock-other first clock (raised_clocks (suc first) rest) q (λ e. omega arith)
    ]

table_of-same : (n first : ℕ) (S R : Stamps) → ((q : ℕ) → first ≤ q → clock_of S q ≡ clock_of R q) → table_of n first S ≡ table_of n first R
unfolding table_of
table_of-same zero first S R same = refl
table_of-same (suc n) first S R same =
    ap₂ (λ (clock : ℕ) (rest : List ℕ). clock ∷ rest) (same first (omega arith)) (table_of-same n (suc first) S R (λ q le. same q (omega arith)))

table_of-raised_clocks : (first : ℕ) (clocks : List ℕ) → table_of (length clocks) first (raised_clocks first clocks) ≡ clocks
unfolding table_of
table_of-raised_clocks first [] = refl
table_of-raised_clocks first (clock ∷ rest) =
    ap₂ (λ (head : ℕ) (tail : List ℕ). head ∷ tail) (raised_clocks-first first clock rest)
    (table_of-same (length rest) (suc first) (raised_clocks first (clock ∷ rest)) (raised_clocks (suc first) rest) (λ q le. raised_clocks-rest first clock rest q (omega arith)) ∙ table_of-raised_clocks (suc first) rest)

-- a table of 64 clocks is the table of those that are not 0
pub table_of-floor : (a : Inside) → length a.clocks ≡ MAX_SERVICES → record { clocks = table_of MAX_SERVICES 0 (raised_clocks 0 a.clocks) } ≡ a
table_of-floor a h = ap (λ clocks. record { clocks = clocks }) (ap (λ n. table_of n 0 (raised_clocks 0 a.clocks)) (sym h) ∙ table_of-raised_clocks 0 a.clocks)
