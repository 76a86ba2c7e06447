-- Numbers, read.
use Rattle.std.proofs.Common.{◌≡◌, ◌∙◌, sym, ap, subst, ℕ, ◌<◌, ◌≤◌, ◌^◌, arith, true, false, List, [], ◌∷◌, length, get_or, Option, Some, None, Ok, Err, inl, inr, IsUtf8}
use Rattle.std.specs.Prelude.{slice_index}
use Rattle.std.proofs.lemmas.Bool.{both_ways, cases_eq}
use Rattle.std.proofs.lemmas.Fmt.{decimal_injective, digits_decimal, decimal-digits_value, first_decimal, decimal_digit, parse-decimal}
use Rattle.std.proofs.lemmas.Str.Parse.{parse_digits}
use Rattle.std.specs.Char.{is_ascii_digit}
use Rattle.std.specs.Fmt.{decimal}
use Rattle.std.specs.List.{list_all}
use Rattle.std.specs.Str.{all_ascii_digits}
use Rattle.trace_text.proofs.PrintedUtf8.{decimal_utf8}
use Rattle.svc_token.specs.Word.{number_from}
use Rattle.trace_text.specs.Reading.{ReadsAs}
use Rattle.trace_text.specs.Inside.Cutting.{IsParsed}
use Rattle.trace_text.proofs.Texts.{own}

abbrev Is64 : ℕ → Type 0
Is64 n = n < 2 ^ 64

pub not_digits : (digits : List ℕ) → list_all is_ascii_digit digits ≡ false → (x : ℕ) → x < 2 ^ 64 → digits ≡ decimal x → ⊥
not_digits digits other x small e = both_ways (list_all is_ascii_digit digits) other (ap all_ascii_digits e ∙ digits_decimal own x small)

pub not_leading : (digits : List ℕ) → 1 < length digits → slice_index digits 0 ≡ 48 → (x : ℕ) → x < 2 ^ 64 → digits ≡ decimal x → ⊥
not_leading digits long zeroed x small e =
    elim (cases_eq x 0) [
      | inl k ↦ (let one : digits ≡ 48 ∷ [] = e ∙ ap decimal k ∙ decimal_digit 0 (omega arith) in absurd (omega (arith, long, ap length one)))
      | inr k ↦ (let some : 0 < x = omega (arith, k) in absurd (omega (arith, zeroed, first_decimal x some small, ap (λ (l : List ℕ). get_or l 0 0) e)))
    ]

pub not_text : (digits : List ℕ) → ¬ (IsUtf8 digits) → (x : ℕ) → x < 2 ^ 64 → digits ≡ decimal x → ⊥
not_text digits bad x small e = bad (subst IsUtf8 (sym e) (decimal_utf8 x))

pub number_read : (digits : List ℕ) (result : Option ℕ) → list_all is_ascii_digit digits ≡ true → (slice_index digits 0 ≡ 48 → length digits ≡ 1) → IsParsed digits result → ReadsAs Is64 decimal digits result
number_read digits (Some n) all alone h =
    let read = parse_digits own {E = Unit {0}} 64 digits (Ok n) h all in
    let value : decimal (number_from 0 digits) ≡ digits = decimal-digits_value own digits all read.0.0 alone read.0.1 in
    (omega (arith, read.0.1, read.1), sym value ∙ ap decimal (sym read.1))
number_read digits None all alone h = λ x small e. absurd (let never : Err tt ≡ Ok x = parse-decimal {E = Unit {0}} 64 x digits (Err tt) small small e h in cc never)

-- a number that has more than 32 bits
pub too_great : (digits : List ℕ) (number : ℕ) → (number < 2 ^ 64) × (digits ≡ decimal number) → 2 ^ 32 ≤ number → (x : ℕ) → x < 2 ^ 32 → digits ≡ decimal x → ⊥
too_great digits number read great x small e =
    let wide : x < 2 ^ 64 = omega (arith, small) in
    let same : number ≡ x = decimal_injective number x read.0 wide (sym read.1 ∙ e) in
    absurd (omega (arith, same, great, small))

-- the number 0
pub no_clock : (digits : List ℕ) (number : ℕ) → (number < 2 ^ 32) × (digits ≡ decimal number) → number ≡ 0 → (x : ℕ) → (0 < x) × (x < 2 ^ 32) → digits ≡ decimal x → ⊥
no_clock digits number read zeroed x is e =
    let wide : x < 2 ^ 64 = omega (arith, is.1) in
    let narrow : number < 2 ^ 64 = omega (arith, read.0) in
    let same : number ≡ x = decimal_injective number x narrow wide (sym read.1 ∙ e) in
    absurd (omega (arith, same, zeroed, is.0))
