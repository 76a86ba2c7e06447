-- Agreement and union, key by key.
use Rattle.std.proofs.Common.{◌≡◌, ◌⊎◌, ◌↔◌, ℕ, suc, ◌+◌, ◌<◌, ◌≤◌, max, List, [], ◌∷◌, ◌++◌, map, length, All, refl, sym, ap, ap₂, subst, ◌∙◌, inl, inr, arith}
use Rattle.std.proofs.lemmas.Bool.{cases_lt}
use Rattle.std.proofs.lemmas.List.{map-append}
use Rattle.std.proofs.lemmas.List.Elements.{All-nil, All-cons}
use Rattle.std.specs.List.{zip}
use Rattle.propagation.specs.Lists.{Has}
use Rattle.propagation.specs.Stamps.{Stamps, clock_of, IsRising, Rise, Agree}
use Rattle.service_machine.specs.States.{raise}
use Rattle.service_machine.proofs.Raising.{clock-this, clock-other, clock-below, raise-rising, raise-clock, rising-same, rising-weaker}
use Rattle.stamp_clock.specs.Places.{AreKeys}
use Rattle.stamp_clock.specs.Beside.{AreBeside}
use Rattle.stamp_clock.proofs.RiseLemmas.{rise-least, rise-from}
use Rattle.stamp_clock.proofs.BesideLemmas.{clock-missing, clock-positive, has-clock, rising-beside}

-- ---- walks over two stamps, key by key

-- the keys that are left rise, and the pairs that are left are those of stamps at these keys
pub record IsRest (left : List ℕ) (S now : Stamps) : Type 0 where
  pub rise : Rise 0 left
  pub rising : IsRising 0 now
  pub within : (q : ℕ) → 0 < clock_of now q → Has left q
  pub same : (q : ℕ) → Has left q → clock_of now q ≡ clock_of S q

pub rest-start : (left keys : List ℕ) (S now : Stamps) → left ≡ keys → AreKeys keys → IsRising 0 S → ((q : ℕ) → 0 < clock_of S q → Has keys q) → now ≡ S → IsRest left S now
rest-start left keys S now at are rising within is =
    subst (λ (T : Stamps). IsRest left S T) (sym is)
    (subst (λ (ks : List ℕ). IsRest ks S S) (sym at) record { rise = are.rise; rising = rising; within = within; same = λ q h. refl })

rising-from : (a k : ℕ) (S : Stamps) → IsRising a S → ((q : ℕ) → 0 < clock_of S q → k ≤ q) → IsRising k S
rising-from a k [] r least = tt
rising-from a k (x ∷ rest) r least = (least x.0 (subst (λ c. 0 < c) (sym (clock-this x.0 x.1 rest x.0 refl)) r.1), r.1, r.2)

-- no pair that is left is below the next key
pub rest-first : (k : ℕ) (rest left : List ℕ) (S now : Stamps) → left ≡ k ∷ rest → IsRest left S now → IsRising k now
rest-first k rest left S now at is =
    let rise : Rise 0 (k ∷ rest) = subst (λ (ks : List ℕ). Rise 0 ks) at is.rise in
    rising-from 0 k now is.rising (λ q h. rise-least k (k ∷ rest) q (omega arith, rise.1) (subst (λ (ks : List ℕ). Has ks q) at (is.within q h)))

-- which has no clock where it is not the first
pub clock-before : (k : ℕ) (x : ℕ × ℕ) (rest S : Stamps) → S ≡ x ∷ rest → IsRising k S → (x.0 ≡ k → ⊥) → clock_of S k ≡ 0
clock-before k x rest S at r ne =
    let first : IsRising k (x ∷ rest) = subst (λ (T : Stamps). IsRising k T) at r in
    let le : k ≤ x.0 = first.0 in
    ap (λ (T : Stamps). clock_of T k) at ∙ clock-below x.0 (x ∷ rest) k (omega arith, first.1, first.2) (omega arith)

-- its pair is taken
pub rest-next : (k : ℕ) (rest left : List ℕ) (S now new : Stamps) → left ≡ k ∷ rest → IsRest left S now → IsRising (k + 1) new → ((q : ℕ) → k < q → clock_of new q ≡ clock_of now q) → IsRest rest S new
rest-next k rest left S now new at is rising others =
    let rise : Rise 0 (k ∷ rest) = subst (λ (ks : List ℕ). Rise 0 ks) at is.rise in
    record {
      rise = rise-from (suc k) 0 rest rise.1 (λ q h. omega arith);
      rising = rising-weaker 0 (k + 1) new (omega arith) rising;
      within = λ q h. elim (cases_lt k q) [
        | inl lt ↦ elim (subst (λ (ks : List ℕ). Has ks q) at (is.within q (subst (λ c. 0 < c) (others q lt) h))) [ inl e ↦ absurd (omega arith) | inr there ↦ there ]
        | inr ge ↦ absurd (let none : clock_of new q ≡ 0 = clock-below (k + 1) new q rising (omega arith) in omega arith)
      ];
      same = λ q h.
          let more : suc k ≤ q = rise-least (suc k) rest q rise.1 h in
          others q (omega arith) ∙ is.same q (subst (λ (ks : List ℕ). Has ks q) (sym at) (inr h));
    }

-- the clock of the next key
pub rest-clock : (k : ℕ) (rest left : List ℕ) (S now : Stamps) (n : ℕ) → left ≡ k ∷ rest → IsRest left S now → n ≡ clock_of now k → n ≡ clock_of S k
rest-clock k rest left S now n at is clock = clock ∙ is.same k (subst (λ (ks : List ℕ). Has ks k) (sym at) (inl refl))

-- on the keys that are not left the two agree
abbrev pub AgreeBut : List ℕ → Stamps → Stamps → Type 0
AgreeBut left S R = (q : ℕ) → 0 < clock_of S q → 0 < clock_of R q → (clock_of S q ≡ clock_of R q) ⊎ Has left q

pub agree-step : (k : ℕ) (rest left : List ℕ) (S R : Stamps) → left ≡ k ∷ rest → AgreeBut left S R → (0 < clock_of S k → 0 < clock_of R k → clock_of S k ≡ clock_of R k) → AgreeBut rest S R
agree-step k rest left S R at but same q s r =
    elim (but q s r) [
      | inl e ↦ inl e
      | inr h ↦ elim (subst (λ (ks : List ℕ). Has ks q) at h) [
        | inl e ↦ inl (subst (λ j. 0 < clock_of S j → 0 < clock_of R j → clock_of S j ≡ clock_of R j) e same s r)
        | inr there ↦ inr there
      ]
    ]

pub agree-end : (left : List ℕ) (S R : Stamps) → left ≡ [] → AgreeBut left S R → Agree S R
agree-end left S R none but q s r = elim (but q s r) [ inl e ↦ e | inr h ↦ absurd (subst (λ (ks : List ℕ). Has ks q) none h) ]

-- ---- keys with clocks that a function of the key gives

length-map : (f : ℕ → ℕ) (ks : List ℕ) → length (map f ks) ≡ length ks
length-map f [] = refl
length-map f (k ∷ ks) = omega (arith, length-map f ks)

all-map : (f : ℕ → ℕ) (ks : List ℕ) → ((q : ℕ) → Has ks q → 0 < f q) → All (λ c. 0 < c) (map f ks)
all-map f [] pos = All-nil (λ c. 0 < c)
all-map f (k ∷ ks) pos = All-cons (λ c. 0 < c) (f k) (map f ks) (pos k (inl refl)) (all-map f ks (λ q h. pos q (inr h)))

clock-map : (f : ℕ → ℕ) (a : ℕ) (ks : List ℕ) (q : ℕ) → Rise a ks → Has ks q → clock_of (zip ks (map f ks)) q ≡ f q
clock-map f a [] q r h = absurd h
clock-map f a (k ∷ ks) q r (inl e) = clock-this k (f k) (zip ks (map f ks)) q e ∙ ap f e
clock-map f a (k ∷ ks) q r (inr h) =
    let more : suc k ≤ q = rise-least (suc k) ks q r.1 h in
    clock-other k (f k) (zip ks (map f ks)) q (λ e. omega arith) ∙ clock-map f (suc k) ks q r.1 h

-- ---- the union

-- a key of stamps is one with a clock
pub is-key : (ks cs : List ℕ) (S : Stamps) (q : ℕ) → AreBeside ks cs → zip ks cs ≡ S → Has ks q ↔ (0 < clock_of S q)
is-key ks cs S q are is =
    subst (λ (T : Stamps). Has ks q ↔ (0 < clock_of T q)) is (clock-positive ks cs q are.lengths are.positive, has-clock ks cs q)

pub is-either : (ks cs ls ds both : List ℕ) (S R : Stamps) → AreBeside ks cs → AreBeside ls ds → zip ks cs ≡ S → zip ls ds ≡ R → ((q : ℕ) → Has both q ↔ (Has ks q ⊎ Has ls q)) → (q : ℕ) → Has both q ↔ ((0 < clock_of S q) ⊎ (0 < clock_of R q))
is-either ks cs ls ds both S R a b s r either q = (
  (λ h. elim ((either q).0 h) [ inl k ↦ inl ((is-key ks cs S q a s).0 k) | inr k ↦ inr ((is-key ls ds R q b r).0 k) ]),
  (λ h. (either q).1 (elim h [ inl k ↦ inl ((is-key ks cs S q a s).1 k) | inr k ↦ inr ((is-key ls ds R q b r).1 k) ])),
)

pub rising-is : (ks cs : List ℕ) (S : Stamps) → AreBeside ks cs → zip ks cs ≡ S → IsRising 0 S
rising-is ks cs S are is = subst (λ (T : Stamps). IsRising 0 T) is (rising-beside 0 ks cs are.are_keys.rise are.positive)

module _ (S R : Stamps) where
  abbrev pub greater : ℕ → ℕ
  greater q = max (clock_of S q) (clock_of R q)

  -- one key more
  pub greater-next : (old new ks : List ℕ) (k n : ℕ) → new ≡ old ++ n ∷ [] → old ≡ map greater ks → n ≡ greater k → new ≡ map greater (ks ++ k ∷ [])
  greater-next old new ks k n more before is =
      more ∙ ap₂ (λ (xs : List ℕ) (x : ℕ). xs ++ x ∷ []) before is ∙ sym (map-append greater ks (k ∷ []))

  pub union-beside : (ks cs : List ℕ) → AreKeys ks → ((q : ℕ) → Has ks q ↔ ((0 < clock_of S q) ⊎ (0 < clock_of R q))) → cs ≡ map greater ks → AreBeside ks cs
  union-beside ks cs are some is =
      subst (λ ds. AreBeside ks ds) (sym is)
      record {
        are_keys = are;
        lengths = sym (length-map greater ks);
        positive = all-map greater ks (λ q h. elim ((some q).0 h) [ inl s ↦ omega arith | inr r ↦ omega arith ]);
      }

  pub union-raise : (ks cs : List ℕ) → AreKeys ks → IsRising 0 S → IsRising 0 R → ((q : ℕ) → Has ks q ↔ ((0 < clock_of S q) ⊎ (0 < clock_of R q))) → cs ≡ map greater ks → zip ks cs ≡ raise S R
  union-raise ks cs are s r some is =
      ap (zip ks) is
      ∙ rising-same 0 0 (zip ks (map greater ks)) (raise S R)
      (rising-beside 0 ks (map greater ks) are.rise (subst (λ ds. All (λ c. 0 < c) ds) is (union-beside ks cs are some is).positive))
      (raise-rising S 0 R s r)
      (λ q. pointwise q ∙ sym (raise-clock S 0 R q s r))
    where
      pointwise : (q : ℕ) → clock_of (zip ks (map greater ks)) q ≡ greater q
      pointwise q =
          elim (cases_lt 0 (clock_of S q)) [
            | inl pos ↦ clock-map greater 0 ks q are.rise ((some q).1 (inl pos))
            | inr none ↦ elim (cases_lt 0 (clock_of R q)) [
              | inl pos ↦ clock-map greater 0 ks q are.rise ((some q).1 (inr pos))
              | inr gone ↦ clock-missing ks (map greater ks) q (λ h. elim ((some q).0 h) [ inl x ↦ absurd (omega arith) | inr x ↦ absurd (omega arith) ]) ∙ omega arith
            ]
          ]
