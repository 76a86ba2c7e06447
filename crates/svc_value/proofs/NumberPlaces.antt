-- How far bytes begin a number.
use Rattle.std.proofs.Common.{◌≡◌, ◌≢◌, refl, sym, ap, ◌∙◌, ℕ, suc, ◌+◌, ◌-◌, ◌*◌, ◌≤◌, Bool, true, false, not, List, [], ◌∷◌, Ok, Err, arith, cond}
use Rattle.std.proofs.lemmas.Bool.{and_parts, and_from, ne_eqb, leb-true, le-leb, both_ways}
use Rattle.std.proofs.lemmas.Bool.Decides.{nat_tests}
use Rattle.std.specs.Char.{is_ascii_digit}
use Rattle.std.specs.Prelude.{◌==◌, ◌&&◌, ◌||◌, nat_le}
use Rattle.std.specs.Str.{all_ascii_digits}
use Rattle.svc_value.specs.declared.inside.Form.{Form}
use Rattle.svc_value.specs.declared.inside.Form.TheVariants.{Any, Printed}
use Rattle.svc_value.specs.Literal.{number_from}
use Rattle.svc_value.specs.Prefix.{IsRefusedAt}
use Rattle.svc_value.specs.Reading.{takes_digit, digits_at, number_at}
use Rattle.svc_value.proofs.Places.{refused_end, refused_here, refused_next, refused_same}

-- where only printed forms are read, nothing follows a 0
abbrev pub EndsAtZero : Form → ℕ → List ℕ → Type 0
EndsAtZero Any so_far xs = Unit {0}
EndsAtZero Printed so_far xs = so_far ≡ 0 → xs ≡ []

-- digits that may follow the number so far
pub record Tail (form : Form) (limit so_far : ℕ) (xs : List ℕ) : Type 0 where
  pub digits : all_ascii_digits xs ≡ true
  pub most : number_from so_far xs ≤ limit
  pub zero : EndsAtZero form so_far xs

-- a number only grows
pub grows : (v : ℕ) (xs : List ℕ) → v ≤ number_from v xs
grows v [] = omega arith
grows v (x ∷ xs) = omega (arith, grows (v * 10 + (x - 48)) xs)

tail_nil : (form : Form) (limit v : ℕ) → v ≤ limit → Tail form limit v []
tail_nil Any limit v l = record { digits = refl; most = l; zero = tt }
tail_nil Printed limit v l = record { digits = refl; most = l; zero = λ _. refl }

tail_to : (form : Form) (limit v b : ℕ) (xs : List ℕ) → takes_digit form limit v b ≡ true → Tail form limit (v * 10 + (b - 48)) xs → Tail form limit v (b ∷ xs)
tail_to Any limit v b xs e t = let p = and_parts (is_ascii_digit b) (nat_le (v * 10 + (b - 48)) limit) e in record { digits = and_from _ _ p.0 t.digits; most = t.most; zero = tt }
tail_to Printed limit v b xs e t =
    let q = and_parts (is_ascii_digit b && nat_le (v * 10 + (b - 48)) limit) (not (v == 0)) e in
    let p = and_parts (is_ascii_digit b) (nat_le (v * 10 + (b - 48)) limit) q.0 in
    record { digits = and_from _ _ p.0 t.digits; most = t.most; zero = λ z. absurd (both_ways _ (by (v == 0) q.1) (ap (λ n. n == 0) z)) }
  where
    by : (b : Bool) → not b ≡ true → b ≡ false
    by true e = sym e
    by false e = refl

tail_from : (form : Form) (limit v b : ℕ) (xs : List ℕ) → Tail form limit v (b ∷ xs) → (takes_digit form limit v b ≡ true) × Tail form limit (v * 10 + (b - 48)) xs
tail_from Any limit v b xs t =
    let p = and_parts (is_ascii_digit b) (all_ascii_digits xs) t.digits in
    let n = grows (v * 10 + (b - 48)) xs in
    (and_from _ _ p.0 (le-leb (v * 10 + (b - 48)) limit (omega (arith, t.most))), record { digits = p.1; most = t.most; zero = tt })
tail_from Printed limit v b xs t =
    let p = and_parts (is_ascii_digit b) (all_ascii_digits xs) t.digits in
    let n = grows (v * 10 + (b - 48)) xs in
    let some : v ≢ 0 = λ z. cc (t.zero z) in
    (and_from _ _ (and_from _ _ p.0 (le-leb (v * 10 + (b - 48)) limit (omega (arith, t.most)))) (ap not (ne_eqb v 0 some)), record { digits = p.1; most = t.most; zero = λ z. absurd (some (omega arith)) })

below : (form : Form) (limit v b : ℕ) → takes_digit form limit v b ≡ true → v * 10 + (b - 48) ≤ limit
below Any limit v b e = leb-true _ _ (and_parts (is_ascii_digit b) (nat_le (v * 10 + (b - 48)) limit) e).1
below Printed limit v b e =
    leb-true _ _ (and_parts (is_ascii_digit b) (nat_le (v * 10 + (b - 48)) limit) (and_parts (is_ascii_digit b && nat_le (v * 10 + (b - 48)) limit) (not (v == 0)) e).0).1

-- ---- digits that are read

-- a refusal at so many bytes behind `at`
pub record RefusedFrom (M : List ℕ → Type 0) (bs : List ℕ) (at p : ℕ) : Type 0 where
  pub place : ℕ
  pub sum : p ≡ at + place
  pub is : IsRefusedAt M bs place

digits_refused : (form : Form) (limit : ℕ) (bs : List ℕ) (at v p : ℕ) → v ≤ limit → digits_at form limit bs at v ≡ Err p → RefusedFrom (Tail form limit v) bs at p
digits_refused form limit [] at v p l e = absurd (cc)
digits_refused form limit (b ∷ bs) at v p l e = by (takes_digit form limit v b) refl (λ k m. digits_refused form limit bs (at + 1) (v * 10 + (b - 48)) p m k) e
  where
    by : (t : Bool) → takes_digit form limit v b ≡ t → (digits_at form limit bs (at + 1) (v * 10 + (b - 48)) ≡ Err p → v * 10 + (b - 48) ≤ limit → RefusedFrom (Tail form limit (v * 10 + (b - 48))) bs (at + 1) p)
        → cond t (digits_at form limit bs (at + 1) (v * 10 + (b - 48))) (Err at) ≡ Err p → RefusedFrom (Tail form limit v) (b ∷ bs) at p
    by true takes go k = let r = go k (below form limit v b takes) in record {
      place = suc r.place;
      sum = omega (arith, r.sum);
      is = refused_next (Tail form limit v) b bs r.place (refused_same (Tail form limit (v * 10 + (b - 48))) (λ xs. Tail form limit v (b ∷ xs)) bs r.place
          (λ xs t. tail_to form limit v b xs takes t) (λ xs t. (tail_from form limit v b xs t).1) r.is);
    }
    by false takes go k =
        let same : at ≡ p = cc in
        record { place = 0; sum = omega arith; is = refused_here (Tail form limit v) b bs [] (tail_nil form limit v l) (λ xs t. both_ways _ takes (tail_from form limit v b xs t).0) }

digits_read : (form : Form) (limit : ℕ) (bs : List ℕ) (at v n : ℕ) → v ≤ limit → digits_at form limit bs at v ≡ Ok n → Tail form limit v bs × (number_from v bs ≡ n)
digits_read form limit [] at v n l e = (tail_nil form limit v l, cc)
digits_read form limit (b ∷ bs) at v n l e = by (takes_digit form limit v b) refl (λ k m. digits_read form limit bs (at + 1) (v * 10 + (b - 48)) n m k) e
  where
    by : (t : Bool) → takes_digit form limit v b ≡ t → (digits_at form limit bs (at + 1) (v * 10 + (b - 48)) ≡ Ok n → v * 10 + (b - 48) ≤ limit → Tail form limit (v * 10 + (b - 48)) bs × (number_from (v * 10 + (b - 48)) bs ≡ n))
        → cond t (digits_at form limit bs (at + 1) (v * 10 + (b - 48))) (Err at) ≡ Ok n → Tail form limit v (b ∷ bs) × (number_from v (b ∷ bs) ≡ n)
    by true takes go k = let r = go k (below form limit v b takes) in (tail_to form limit v b bs takes r.0, r.1)
    by false takes go k = absurd (cc)

-- ---- whole numbers

-- one or more digits; the first may be 0 where `zero` says so
abbrev pub Digits : Form → Bool → ℕ → List ℕ → Type 0
Digits form zero limit [] = ⊥
Digits form zero limit (b ∷ xs) = ((is_ascii_digit b && (zero || not (b == 48))) ≡ true) × Tail form limit (b - 48) xs

pub one_digit : (form : Form) (zero : Bool) (limit : ℕ) → 9 ≤ limit → Digits form zero limit (49 ∷ [])
one_digit form true limit h = (refl, tail_nil form limit 1 (omega arith))
one_digit form false limit h = (refl, tail_nil form limit 1 (omega arith))

digit_small : (b : ℕ) (z : Bool) → (is_ascii_digit b && z) ≡ true → b - 48 ≤ 9
digit_small b z e = let p = and_parts (is_ascii_digit b) z e in grind (arith, nat_tests)

pub number_refused : (form : Form) (zero : Bool) (limit at : ℕ) (bs : List ℕ) (p : ℕ) → 9 ≤ limit → number_at form zero limit at bs ≡ Err p → RefusedFrom (Digits form zero limit) bs at p
number_refused form zero limit at [] p h e =
    let same : at ≡ p = cc in
    record { place = 0; sum = omega arith; is = refused_end (Digits form zero limit) (49 ∷ []) (one_digit form zero limit h) (λ k. k) }
number_refused form zero limit at (b ∷ bs) p h e = by (is_ascii_digit b && (zero || not (b == 48))) refl e
  where
    by : (t : Bool) → (is_ascii_digit b && (zero || not (b == 48))) ≡ t → cond t (digits_at form limit bs (at + 1) (b - 48)) (Err at) ≡ Err p → RefusedFrom (Digits form zero limit) (b ∷ bs) at p
    by true d k = let r = digits_refused form limit bs (at + 1) (b - 48) p (omega (arith, digit_small b _ d)) k in record {
      place = suc r.place;
      sum = omega (arith, r.sum);
      is = refused_next (Digits form zero limit) b bs r.place (refused_same (Tail form limit (b - 48)) (λ xs. Digits form zero limit (b ∷ xs)) bs r.place (λ xs t. (d, t)) (λ xs t. t.1) r.is);
    }
    by false d k =
        let same : at ≡ p = cc in
        record { place = 0; sum = omega arith; is = refused_here (Digits form zero limit) b bs (49 ∷ []) (one_digit form zero limit h) (λ xs t. both_ways _ d t.0) }

-- the number that the digits spell
pub record IsRead (form : Form) (zero : Bool) (limit : ℕ) (bs : List ℕ) (n : ℕ) : Type 0 where
  pub digits : Digits form zero limit bs
  pub spelled : number_from 0 bs ≡ n
  pub most : n ≤ limit

pub from_zero : (b : ℕ) (xs : List ℕ) → number_from 0 (b ∷ xs) ≡ number_from (b - 48) xs
from_zero b xs = let e : 0 * 10 + (b - 48) ≡ b - 48 = omega arith in ap (λ v. number_from v xs) e

pub number_read : (form : Form) (zero : Bool) (limit at : ℕ) (bs : List ℕ) (n : ℕ) → 9 ≤ limit → number_at form zero limit at bs ≡ Ok n → IsRead form zero limit bs n
number_read form zero limit at [] n h e = absurd (cc)
number_read form zero limit at (b ∷ bs) n h e = by (is_ascii_digit b && (zero || not (b == 48))) refl e
  where
    by : (t : Bool) → (is_ascii_digit b && (zero || not (b == 48))) ≡ t → cond t (digits_at form limit bs (at + 1) (b - 48)) (Err at) ≡ Ok n → IsRead form zero limit (b ∷ bs) n
    by true d k =
        let r = digits_read form limit bs (at + 1) (b - 48) n (omega (arith, digit_small b _ d)) k in
        record { digits = (d, r.0); spelled = from_zero b bs ∙ r.1; most = omega (arith, r.0.most, r.1) }
    by false d k = absurd (cc)
