-- Whole numbers as the code has them, and the numbers that texts spell.
use Rattle.std.proofs.Common.{◌≡◌, ℕ, zero, suc, ◌^◌, ◌<◌, ◌≤◌, ℤ, pos, negsuc, ◌*ℤ◌, neg_ℤ, int_rem, Bool, true, ◌&&◌, if◌then◌else◌, nat_lt, inl, inr, List, length, get_or, drop, Option, Some, None, option_map, Result, Ok, Err, refl, sym, ap, ◌∙◌, FitsSigned, to_z, of_z, w64, arith}
use Rattle.std.specs.Int.{w128}
use Rattle.std.proofs.lemmas.Bool.{lt-ltb, le-leb, lt-leb, eq-eqb, ne_eqb, ltb-true, and_from, and_parts, cases_eq, cases_Bool}
use Rattle.std.proofs.lemmas.Int.{to_z-of_z, rem_is, fits_signed_mul}
use Rattle.std.proofs.lemmas.Str.Parse.{IsNumeralModel, numerals_by_value, tells_all_ascii_digits, parse_signed_minus, parse_signed_plain}
use Rattle.std.specs.Prelude.{unsigned_abs}
use Rattle.std.specs.Result.{OkIff}
use Rattle.std.specs.Str.{all_ascii_digits}
use Rattle.std.specs.Str.Parse.{digits_value, ParsesSigned}
use Rattle.svc_value.specs.declared.value.Fault.TheVariants.{Number}
use Rattle.svc_value.specs.declared.value.Value.{Value}
use Rattle.svc_value.specs.declared.value.Value.TheVariants.{Int, Bad}
use Rattle.svc_expr.specs.Meaning.{exact, remainder, unsigned_number, signed_number, number_or_fault}

-- 64 bits are among 128
pub wide : (z : ℤ) → FitsSigned w64 z → FitsSigned w128 z
wide z f = record { sfits = omega (arith, f.sfits) }

-- a number of 64 bits, as the code has it at 128 bits
abbrev pub wider : ℤ → ℤ
wider z = to_z w128 (of_z w128 (to_z w64 (of_z w64 z)))

pub wider_is : (z : ℤ) → FitsSigned w64 z → wider z ≡ z
wider_is z f = ap (λ (y : ℤ). to_z w128 (of_z w128 y)) (to_z-of_z w64 z f) ∙ to_z-of_z w128 z (wide z f)

not_by_zero : (x y : ℤ) → (of_z w64 y ≡ 0 → ⊥) → remainder x y ≡ exact (int_rem x y)
not_by_zero x (pos zero) h = absurd (h refl)
not_by_zero x (pos (suc n)) h = refl
not_by_zero x (negsuc n) h = refl

pub remainder_is : (x y : ℤ) → FitsSigned w64 x → FitsSigned w64 y → (of_z w64 y ≡ 0 → ⊥) → exact (to_z w128 (of_z w128 (int_rem (wider x) (wider y)))) ≡ remainder x y
remainder_is x y f g h =
    ap (λ (a : ℤ). exact (to_z w128 (of_z w128 (int_rem (to_z w128 (of_z w128 a)) (wider y))))) (to_z-of_z w64 x f)
    ∙ ap (λ (b : ℤ). exact (to_z w128 (of_z w128 (int_rem (to_z w128 (of_z w128 x)) (to_z w128 (of_z w128 b)))))) (to_z-of_z w64 y g)
    ∙ ap exact (rem_is w128 x y (wide x f) (wide y g))
    ∙ sym (not_by_zero x y h)

abs_fits : (z : ℤ) → FitsSigned w64 z → unsigned_abs z ≤ 2 ^ 63
abs_fits (pos n) f = omega (arith, f.sfits)
abs_fits (negsuc n) f = omega (arith, f.sfits)

pub product_is : (x y : ℤ) → FitsSigned w64 x → FitsSigned w64 y → exact (to_z w128 (of_z w128 (wider x *ℤ wider y))) ≡ exact (x *ℤ y)
product_is x y f g =
    ap (λ (a : ℤ). exact (to_z w128 (of_z w128 (a *ℤ wider y)))) (wider_is x f)
    ∙ ap (λ (b : ℤ). exact (to_z w128 (of_z w128 (x *ℤ b)))) (wider_is y g)
    ∙ ap exact (to_z-of_z w128 (x *ℤ y) (fits_signed_mul w128 x y (2 ^ 63) (2 ^ 63) (abs_fits x f) (abs_fits y g) (omega arith)))

-- what the code makes of a number that was parsed
abbrev pub parsed : {E : Type 0} → Result ℤ E → Value
parsed (Ok z) = Int z
parsed (Err e) = Bad Number

-- what is spelled where the text is a numeral
is_spelled : (ds : List ℕ) → (all_ascii_digits ds ≡ true) → 0 < length ds → unsigned_number ds ≡ Some (pos (digits_value 10 ds))
is_spelled ds p h = ap (λ (b : Bool). if b then Some (pos (digits_value 10 ds)) else None) (and_from (nat_lt 0 (length ds)) (all_ascii_digits ds) (lt-ltb 0 (length ds) h) p)

fits_plain : (n : ℕ) → n < 2 ^ 63 → number_or_fault (Some (pos n)) ≡ Int (pos n)
fits_plain n h = ap (λ (b : Bool). if b then Int (pos n) else Bad Number) (le-leb n 9223372036854775807 (omega arith))

past_plain : (n : ℕ) → (n < 2 ^ 63 → ⊥) → number_or_fault (Some (pos n)) ≡ Bad Number
past_plain n h = ap (λ (b : Bool). if b then Int (pos n) else Bad Number) (lt-leb n 9223372036854775807 (omega arith))

fits_minus : (n : ℕ) → n ≤ 2 ^ 63 → number_or_fault (Some (neg_ℤ (pos n))) ≡ Int (neg_ℤ (pos n))
fits_minus zero h = refl
fits_minus (suc n) h = ap (λ (b : Bool). if b && true then Int (negsuc n) else Bad Number) (le-leb n 9223372036854775807 (omega arith))

past_minus : (n : ℕ) → (n ≤ 2 ^ 63 → ⊥) → number_or_fault (Some (neg_ℤ (pos n))) ≡ Bad Number
past_minus zero h = absurd (h (omega arith))
past_minus (suc n) h = ap (λ (b : Bool). if b && true then Int (negsuc n) else Bad Number) (lt-leb n 9223372036854775807 (omega arith))

own : IsNumeralModel (λ ds. all_ascii_digits ds ≡ true) (digits_value 10)
own = numerals_by_value _ tells_all_ascii_digits

module _ {E : Type 0} where
  reads_plain : (ds : List ℕ) (r : Result ℤ E) → OkIff r ((all_ascii_digits ds ≡ true) × (0 < length ds) × (digits_value 10 ds < 2 ^ 63)) (pos (digits_value 10 ds)) → number_or_fault (unsigned_number ds) ≡ parsed r
  reads_plain ds (Ok z) k = ap number_or_fault (is_spelled ds k.0.0 k.0.1) ∙ fits_plain (digits_value 10 ds) k.0.2 ∙ ap Int (sym k.1)
  reads_plain ds (Err e) k =
      elim (cases_Bool (nat_lt 0 (length ds) && all_ascii_digits ds)) [
        | inl t ↦
            let p = and_parts (nat_lt 0 (length ds)) (all_ascii_digits ds) t in
            ap number_or_fault (is_spelled ds p.1 (ltb-true 0 (length ds) p.0)) ∙ past_plain (digits_value 10 ds) (λ h. k (p.1, ltb-true 0 (length ds) p.0, h))
        | inr f ↦ ap (λ (b : Bool). number_or_fault (if b then Some (pos (digits_value 10 ds)) else None)) f
      ]

  reads_minus : (ds : List ℕ) (r : Result ℤ E) → OkIff r ((all_ascii_digits ds ≡ true) × (0 < length ds) × (digits_value 10 ds ≤ 2 ^ 63)) (neg_ℤ (pos (digits_value 10 ds))) → number_or_fault (option_map neg_ℤ (unsigned_number ds)) ≡ parsed r
  reads_minus ds (Ok z) k = ap (λ (o : Option ℤ). number_or_fault (option_map neg_ℤ o)) (is_spelled ds k.0.0 k.0.1) ∙ fits_minus (digits_value 10 ds) k.0.2 ∙ ap Int (sym k.1)
  reads_minus ds (Err e) k =
      elim (cases_Bool (nat_lt 0 (length ds) && all_ascii_digits ds)) [
        | inl t ↦
            let p = and_parts (nat_lt 0 (length ds)) (all_ascii_digits ds) t in
            ap (λ (o : Option ℤ). number_or_fault (option_map neg_ℤ o)) (is_spelled ds p.1 (ltb-true 0 (length ds) p.0)) ∙ past_minus (digits_value 10 ds) (λ h. k (p.1, ltb-true 0 (length ds) p.0, h))
        | inr f ↦ ap (λ (b : Bool). number_or_fault (option_map neg_ℤ (if b then Some (pos (digits_value 10 ds)) else None))) f
      ]

  pub reads : (text : List ℕ) (r : Result ℤ E) → (get_or text 0 0 ≡ 43 → ⊥) → ParsesSigned w64 10 text r → number_or_fault (signed_number text) ≡ parsed r
  reads text r plus h =
      elim (cases_eq (get_or text 0 0) 45) [
        | inl e ↦ ap (λ (b : Bool). number_or_fault (if b then option_map neg_ℤ (unsigned_number (drop 1 text)) else unsigned_number text)) (eq-eqb (get_or text 0 0) 45 e) ∙ reads_minus (drop 1 text) r (parse_signed_minus own w64 text r h e)
        | inr n ↦ ap (λ (b : Bool). number_or_fault (if b then option_map neg_ℤ (unsigned_number (drop 1 text)) else unsigned_number text)) (ne_eqb (get_or text 0 0) 45 n) ∙ reads_plain text r (parse_signed_plain own w64 text r h plus n)
      ]
