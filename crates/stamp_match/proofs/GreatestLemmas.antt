-- The greatest clocks of a floor and of heads.
use Rattle.std.proofs.Common.{◌≡◌, ℕ, zero, suc, ◌<◌, ◌≤◌, max, List, [], ◌∷◌, length, set, slice_index_or, Option, option_map, Some, None, refl, subst, inl, inr, arith}
use Rattle.std.proofs.lemmas.Bool.{cases_lt}
use Rattle.std.proofs.lemmas.List.{length-set, get_or-set_same}
use Rattle.propagation.specs.Stamps.{Stamps, clock_of, IsRising}
use Rattle.service_machine.specs.States.{Slot, Head, raise, raise_all}
use Rattle.service_machine.specs.Turning.{heads, with_head, greatest_clocks}
use Rattle.service_machine.proofs.Raising.{raise-clock, raise-rising}
use Rattle.stamp_match.specs.Kept.{head_stamps, clock_in, greatest, IsRisingHead, AreRisingHeads}

-- a raise of the floor
pub greatest-raised : (F S : Stamps) (hs : List (Option Stamps)) (q : ℕ) → IsRising 0 F → IsRising 0 S → greatest (raise F S) hs q ≡ max (greatest F hs q) (clock_of S q)
greatest-raised F S [] q f s = raise-clock F 0 S q f s
greatest-raised F S (h ∷ hs) q f s = let rest : greatest (raise F S) hs q ≡ max (greatest F hs q) (clock_of S q) = greatest-raised F S hs q f s in omega arith

module _ {V : Type 0} where
  -- they are the clocks of the machine's
  pub greatest-greatest_clocks : (slots : List (Slot V)) (F : Stamps) (q : ℕ) → IsRising 0 F → AreRisingHeads (head_stamps slots) → clock_of (greatest_clocks slots F) q ≡ greatest F (head_stamps slots) q
  greatest-greatest_clocks [] F q f r = refl
  greatest-greatest_clocks (s ∷ rest) F q f r = go (λ G g. greatest-greatest_clocks rest G q g r.1) s.head r.0
    where
      go : ((G : Stamps) → IsRising 0 G → clock_of (greatest_clocks rest G) q ≡ greatest G (head_stamps rest) q) → (o : Option (Head V)) → IsRisingHead (option_map (λ (h : Head V). h.emission.stamps) o) →
          clock_of (raise_all F (with_head o (heads rest))) q ≡ max (clock_in (option_map (λ (h : Head V). h.emission.stamps) o) q) (greatest F (head_stamps rest) q)
      go prior None t = let all : clock_of (greatest_clocks rest F) q ≡ greatest F (head_stamps rest) q = prior F f in omega arith
      go prior (Some h) t =
          let all : clock_of (greatest_clocks rest (raise F h.emission.stamps)) q ≡ greatest (raise F h.emission.stamps) (head_stamps rest) q = prior (raise F h.emission.stamps) (raise-rising F 0 h.emission.stamps f t) in
          let more : greatest (raise F h.emission.stamps) (head_stamps rest) q ≡ max (greatest F (head_stamps rest) q) (clock_of h.emission.stamps q) = greatest-raised F h.emission.stamps (head_stamps rest) q f t in
          omega arith

  pub greatest_clocks-rising : (slots : List (Slot V)) (F : Stamps) → IsRising 0 F → AreRisingHeads (head_stamps slots) → IsRising 0 (greatest_clocks slots F)
  greatest_clocks-rising [] F f r = f
  greatest_clocks-rising (s ∷ rest) F f r = go (λ G g. greatest_clocks-rising rest G g r.1) s.head r.0
    where
      go : ((G : Stamps) → IsRising 0 G → IsRising 0 (greatest_clocks rest G)) → (o : Option (Head V)) → IsRisingHead (option_map (λ (h : Head V). h.emission.stamps) o) → IsRising 0 (raise_all F (with_head o (heads rest)))
      go prior None t = prior F f
      go prior (Some h) t = prior (raise F h.emission.stamps) (raise-rising F 0 h.emission.stamps f t)

-- ---- one head among others

pub greatest-floor : (F : Stamps) (hs : List (Option Stamps)) (q : ℕ) → clock_of F q ≤ greatest F hs q
greatest-floor F [] q = omega arith
greatest-floor F (h ∷ hs) q = let rest : clock_of F q ≤ greatest F hs q = greatest-floor F hs q in omega arith

pub greatest-within : (F : Stamps) (hs : List (Option Stamps)) (i q : ℕ) → i < length hs → clock_in (slice_index_or hs i None) q ≤ greatest F hs q
greatest-within F [] i q lt = absurd (omega arith)
greatest-within F (h ∷ hs) zero q lt = omega arith
greatest-within F (h ∷ hs) (suc i) q lt = let rest : clock_in (slice_index_or hs i None) q ≤ greatest F hs q = greatest-within F hs i q (omega arith) in omega arith

-- a floor that no head is above has the greatest clocks
pub greatest-above : (F : Stamps) (hs : List (Option Stamps)) (q : ℕ) → ((i : ℕ) → i < length hs → clock_in (slice_index_or hs i None) q ≤ clock_of F q) → clock_of F q ≡ greatest F hs q
greatest-above F [] q within = refl
greatest-above F (h ∷ hs) q within =
    let own : clock_in h q ≤ clock_of F q = within zero (omega arith) in
    let rest : clock_of F q ≡ greatest F hs q = greatest-above F hs q (λ i lt. within (suc i) (omega arith)) in
    omega arith

-- a floor beside the greatest clocks of another one and the heads
pub greatest-beside : (F G : Stamps) (hs : List (Option Stamps)) (q : ℕ) → max (clock_of F q) (greatest G hs q) ≡ max (greatest F hs q) (clock_of G q)
greatest-beside F G [] q = refl
greatest-beside F G (h ∷ hs) q = let rest : max (clock_of F q) (greatest G hs q) ≡ max (greatest F hs q) (clock_of G q) = greatest-beside F G hs q in omega arith

-- another head in the place of one
greatest-set : (F : Stamps) (hs : List (Option Stamps)) (i : ℕ) (h : Option Stamps) (q : ℕ) → greatest F (set hs i h) q ≤ max (greatest F hs q) (clock_in h q)
greatest-set F [] i h q = omega arith
greatest-set F (x ∷ hs) zero h q = omega arith
greatest-set F (x ∷ hs) (suc i) h q = let rest : greatest F (set hs i h) q ≤ max (greatest F hs q) (clock_in h q) = greatest-set F hs i h q in omega arith

greatest-lost : (F : Stamps) (hs : List (Option Stamps)) (i : ℕ) (h : Option Stamps) (q : ℕ) → greatest F hs q ≤ max (clock_in (slice_index_or hs i None) q) (greatest F (set hs i h) q)
greatest-lost F [] i h q = omega arith
greatest-lost F (x ∷ hs) zero h q = omega arith
greatest-lost F (x ∷ hs) (suc i) h q = let rest : greatest F hs q ≤ max (clock_in (slice_index_or hs i None) q) (greatest F (set hs i h) q) = greatest-lost F hs i h q in omega arith

-- where no greatest clock above the floor's falls with the head that goes, the greatest ones are raised by the one that comes
pub greatest-moved : (F : Stamps) (hs : List (Option Stamps)) (i : ℕ) (h : Option Stamps) (q : ℕ) → i < length hs →
    (greatest F hs q ≤ clock_in (slice_index_or hs i None) q → clock_of F q < clock_in (slice_index_or hs i None) q → clock_in (slice_index_or hs i None) q ≤ clock_in h q) →
    max (greatest F hs q) (clock_in h q) ≡ greatest F (set hs i h) q
greatest-moved F hs i h q lt kept =
    let some : i < length (set hs i h) = omega (arith, length-set hs i h) in
    moved (clock_of F q) (clock_in (slice_index_or hs i None) q) (greatest F hs q) (greatest F (set hs i h) q) (clock_in h q)
    (subst (λ o. clock_in o q ≤ greatest F (set hs i h) q) (get_or-set_same hs i h None lt) (greatest-within F (set hs i h) i q some)) (greatest-floor F (set hs i h) q)
    (greatest-set F hs i h q) (greatest-lost F hs i h q) (greatest-within F hs i q lt) kept
  where
    moved : (f o b a n : ℕ) → n ≤ a → f ≤ a → a ≤ max b n → b ≤ max o a → o ≤ b → (b ≤ o → f < o → o ≤ n) → max b n ≡ a
    moved f o b a n own floor most lost was kept =
        elim (cases_lt a b) [
          | inl lt ↦ (let le : b ≤ o = omega arith in let above : f < o = omega arith in let no : o ≤ n = kept le above in absurd (omega arith))
          | inr le ↦ omega arith
        ]

pub heads-set : (hs : List (Option Stamps)) (i : ℕ) (h : Option Stamps) → AreRisingHeads hs → IsRisingHead h → AreRisingHeads (set hs i h)
heads-set [] i h r s = r
heads-set (x ∷ hs) zero h r s = (s, r.1)
heads-set (x ∷ hs) (suc i) h r s = (r.0, heads-set hs i h r.1 s)

pub heads-at : (hs : List (Option Stamps)) (i : ℕ) → AreRisingHeads hs → IsRisingHead (slice_index_or hs i None)
heads-at [] i r = tt
heads-at (x ∷ hs) zero r = r.0
heads-at (x ∷ hs) (suc i) r = heads-at hs i r.1

-- each one rises
pub heads-each : (hs : List (Option Stamps)) → ((i : ℕ) → i < length hs → IsRisingHead (slice_index_or hs i None)) → AreRisingHeads hs
heads-each [] each = tt
heads-each (h ∷ hs) each = (each zero (omega arith), heads-each hs (λ i lt. each (suc i) (omega arith)))
