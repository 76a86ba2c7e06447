-- The keys on which a greatest clock may fall, as they are found.
use Rattle.std.proofs.Common.{◌≡◌, ℕ, suc, ◌<◌, ◌≤◌, List, [], ◌∷◌, ◌++◌, Option, Some, None, ◌⊎◌, inl, inr, refl, sym, subst, ap, ◌∙◌, arith}
use Rattle.std.proofs.lemmas.Bool.{cases_eq}
use Rattle.propagation.specs.Lists.{Has}
use Rattle.propagation.specs.Stamps.{Stamps, clock_of, IsRising}
use Rattle.propagation.proofs.Keys.{rising-clocks}
use Rattle.propagation.proofs.Lists.{Has-append_left, Has-append_right, Has-append_cases}
use Rattle.service_machine.proofs.Raising.{clock-this, clock-other, clock-below}
use Rattle.stamp_match.specs.Falling.{NoneFalls, AreReached}
use Rattle.stamp_match.specs.Kept.{clock_in}

-- each key is still to come, or is held if it has to be
abbrev pub AreFound : Stamps → Stamps → Stamps → Stamps → List ℕ → Type 0
AreFound T F S left held = (q : ℕ) → (clock_of left q ≡ clock_of S q) ⊎ (clock_of T q ≤ clock_of S q → clock_of F q < clock_of S q → Has held q)

module _ (T F S left rest : Stamps) (held : List ℕ) (k c : ℕ) (steps : left ≡ (k, c) ∷ rest) (before : AreFound T F S left held) where
  -- one that need not be held
  pub found-on : (c ≤ clock_of F k) ⊎ (c < clock_of T k) → AreFound T F S rest held
  found-on free q =
      elim (before q) [
        | inl e ↦ elim (cases_eq k q) [
          | inl same ↦
              (let this : clock_of left q ≡ c = ap (λ (L : Stamps). clock_of L q) steps ∙ clock-this k c rest q same in
              let floor : clock_of F k ≡ clock_of F q = ap (clock_of F) same in
              let top : clock_of T k ≡ clock_of T q = ap (clock_of T) same in
              inr (λ a b. elim free [ inl le ↦ absurd (omega arith) | inr lt ↦ absurd (omega arith) ]))
          | inr ne ↦ inl (sym (ap (λ (L : Stamps). clock_of L q) steps ∙ clock-other k c rest q ne) ∙ e)
        ]
        | inr d ↦ inr d
      ]

  -- one that is
  pub found-more : AreFound T F S rest (held ++ k ∷ [])
  found-more q =
      elim (before q) [
        | inl e ↦ elim (cases_eq k q) [
          | inl same ↦ inr (λ a b. Has-append_right held (k ∷ []) q (inl same))
          | inr ne ↦ inl (sym (ap (λ (L : Stamps). clock_of L q) steps ∙ clock-other k c rest q ne) ∙ e)
        ]
        | inr d ↦ inr (λ a b. Has-append_left held (k ∷ []) q (d a b))
      ]

-- the head that goes has each clock that is still to come
abbrev pub AreOf : Stamps → Stamps → Type 0
AreOf S left = (x : ℕ × ℕ) → Has left x → clock_of S x.0 ≡ x.1

pub are-of : (S : Stamps) (least : ℕ) → IsRising least S → AreOf S S
are-of [] least r x h = absurd h
are-of (y ∷ rest) least r x (inl e) = clock-this y.0 y.1 rest x.0 (ap (λ (z : ℕ × ℕ). z.0) e) ∙ ap (λ (z : ℕ × ℕ). z.1) e
are-of (y ∷ rest) least r x (inr h) =
    let here : clock_of rest x.0 ≡ x.1 = are-of rest (suc y.0) r.2 x h in
    let pos : 0 < x.1 = rising-clocks (suc y.0) rest r.2 x h in
    elim (cases_eq y.0 x.0) [
      | inl e ↦ absurd (let none : clock_of rest x.0 ≡ 0 = clock-below (suc y.0) rest x.0 r.2 (omega arith) in omega arith)
      | inr ne ↦ clock-other y.0 y.1 rest x.0 ne ∙ here
    ]

pub of-first : (S left rest : Stamps) (x : ℕ × ℕ) → left ≡ x ∷ rest → AreOf S left → clock_of S x.0 ≡ x.1
of-first S left rest x steps are = are x (subst (λ (L : Stamps). Has L x) (sym steps) (inl refl))

pub of-rest : (S left rest : Stamps) (x : ℕ × ℕ) → left ≡ x ∷ rest → AreOf S left → AreOf S rest
of-rest S left rest x steps are y h = are y (subst (λ (L : Stamps). Has L y) (sym steps) (inr h))

-- a key that is held is one on which the head has a greatest clock
pub only-more : (T S : Stamps) (held : List ℕ) (k c : ℕ) → clock_of S k ≡ c → clock_of T k ≤ c → ((q : ℕ) → Has held q → clock_of T q ≤ clock_of S q) → (q : ℕ) → Has (held ++ k ∷ []) q → clock_of T q ≤ clock_of S q
only-more T S held k c is top only q has =
    elim (Has-append_cases held (k ∷ []) q has) [
      | inl there ↦ only q there
      | inr here ↦ (elim here [
        | inl same ↦
            (let at : clock_of T k ≡ clock_of T q = ap (clock_of T) same in
            let this : clock_of S k ≡ clock_of S q = ap (clock_of S) same in
            omega arith)
        | inr none ↦ absurd none
      ])
    ]

-- ---- the keys that are held are below those to come

-- the pairs to come rise from here on, and the keys are below
pub record AreBefore (held : List ℕ) (left : Stamps) : Type 0 where
  pub bound : ℕ
  pub rising : IsRising bound left
  pub below : (q : ℕ) → Has held q → q < bound

pub before-first : (held : List ℕ) (left rest : Stamps) (x : ℕ × ℕ) → left ≡ x ∷ rest → AreBefore held left → (q : ℕ) → Has held q → q < x.0
before-first held left rest x steps before q has =
    let rises : IsRising before.bound (x ∷ rest) = subst (λ (L : Stamps). IsRising before.bound L) steps before.rising in
    omega (arith, before.below q has, rises.0)

pub before-on : (held : List ℕ) (left rest : Stamps) (x : ℕ × ℕ) → left ≡ x ∷ rest → AreBefore held left → AreBefore held rest
before-on held left rest x steps before =
    let rises : IsRising before.bound (x ∷ rest) = subst (λ (L : Stamps). IsRising before.bound L) steps before.rising in
    record { bound = suc x.0; rising = rises.2; below = λ q has. omega (arith, before-first held left rest x steps before q has) }

pub before-more : (held : List ℕ) (left rest : Stamps) (x : ℕ × ℕ) → left ≡ x ∷ rest → AreBefore held left → AreBefore (held ++ x.0 ∷ []) rest
before-more held left rest x steps before =
    let rises : IsRising before.bound (x ∷ rest) = subst (λ (L : Stamps). IsRising before.bound L) steps before.rising in
    record {
      bound = suc x.0;
      rising = rises.2;
      below = λ q has. elim (Has-append_cases held (x.0 ∷ []) q has) [
        | inl there ↦ omega (arith, before-first held left rest x steps before q there)
        | inr here ↦ (elim here [ inl same ↦ omega arith | inr none ↦ absurd none ])
      ];
    }

-- ---- a head that comes

-- each of the keys is still to come, or the head that comes has its greatest clock
abbrev pub AreOver : Stamps → List ℕ → Stamps → List ℕ → Type 0
AreOver T held S left = (q : ℕ) → Has held q → Has left q ⊎ (clock_of T q ≤ clock_of S q)

pub over-on : (T : Stamps) (held : List ℕ) (S : Stamps) (left rest : List ℕ) (k : ℕ) → left ≡ k ∷ rest → AreOver T held S left → clock_of T k ≤ clock_of S k → AreOver T held S rest
over-on T held S left rest k steps over le q has =
    elim (over q has) [
      | inl there ↦ (let at : Has (k ∷ rest) q = subst (λ (ks : List ℕ). Has ks q) steps there in
          elim at [
            | inl same ↦
                (let top : clock_of T k ≡ clock_of T q = ap (clock_of T) same in
                let this : clock_of S k ≡ clock_of S q = ap (clock_of S) same in
                inr (omega arith))
            | inr more ↦ inl more
          ])
      | inr d ↦ inr d
    ]

-- a head of which none falls has the greatest clock on each key that is held
pub reached-held : (T : Stamps) (held : List ℕ) (old new : Option Stamps) → ((q : ℕ) → Has held q → clock_of T q ≤ clock_in old q) → NoneFalls old new → AreReached T held new
reached-held T held old None only none = none
reached-held T held old (Some S) only none = λ q has. let a : clock_of T q ≤ clock_in old q = only q has in let b : clock_in old q ≤ clock_of S q = none q in omega arith

pub reached-in : (T : Stamps) (held : List ℕ) (new : Option Stamps) → AreReached T held new → (q : ℕ) → Has held q → clock_of T q ≤ clock_in new q
reached-in T held None none q has = absurd none
reached-in T held (Some S) all q has = all q has
