-- What a value is printed as is UTF-8.
use Rattle.std.proofs.Common.{◌≡◌, ℕ, zero, suc, ◌<◌, ◌≤◌, Bool, true, false, List, [], ◌∷◌, ◌++◌, length, get_or, IsUtf8, ◌+◌, inl, inr, refl, sym, ap, ap₂, ◌∙◌, subst, arith, append_assoc, append-nil, flat_map}
use Rattle.std.specs.Prelude.{◌&&◌, ◌==◌, nat_lt, pos, negsuc, ℤ, ◌/◌, ◌%◌, if◌then◌else◌}
use Rattle.std.specs.Fmt.{digit_glyph, digits, digits_onto, decimal, signed_decimal}
use Rattle.std.proofs.lemmas.Bool.{and_parts, cases_lt, cases_eq}
use Rattle.std.proofs.lemmas.Bool.Decides.{nat_tests}
use Rattle.std.proofs.lemmas.Str.{IsUtf8-append, IsUtf8-nil, IsUtf8-encode, encode_ascii, inside_one}
use lib.Utf8.{scalar, scalars, encode, encodes, low_scalar}
use Rattle.svc_value.specs.declared.value.Fault.TheVariants.{Overflow, Zero, Long, Number, Empty}
use Rattle.svc_value.specs.declared.value.Value.{Value}
use Rattle.svc_value.specs.declared.value.Value.TheVariants.{Int, Words, Bad}
use Rattle.svc_value.specs.Layout.{IsWithin}
use Rattle.svc_value.specs.Printed.{quoted_byte, between_quotes, fault_text, printed_value}
use Rattle.svc_value.proofs.Quoting.{quoted_plain}

-- ---- bytes of ASCII

ascii_then : (x : ℕ) (xs : List ℕ) → x < 128 → IsUtf8 xs → IsUtf8 (x ∷ xs)
ascii_then x xs small u = IsUtf8-append (x ∷ []) xs (subst IsUtf8 (encode_ascii x small) (IsUtf8-encode x (low_scalar x (omega arith)))) u

-- each byte is of ASCII
abbrev are_ascii : List ℕ → Bool
are_ascii [] = true
are_ascii (x ∷ xs) = nat_lt x 128 && are_ascii xs

ascii_is : (x : ℕ) → nat_lt x 128 ≡ true → x < 128
ascii_is x h = grind (arith, nat_tests)

by_test : (xs : List ℕ) → are_ascii xs ≡ true → IsUtf8 xs
by_test [] e = IsUtf8-nil
by_test (x ∷ xs) e = let p = and_parts _ _ e in ascii_then x xs (ascii_is x p.0) (by_test xs p.1)

-- ---- quoted texts

-- what stands for the bytes below n is of ASCII
abbrev quoted_below : ℕ → Bool
quoted_below zero = true
quoted_below (suc n) = are_ascii (quoted_byte n) && quoted_below n

below : (n : ℕ) → quoted_below n ≡ true → (x : ℕ) → x < n → are_ascii (quoted_byte x) ≡ true
below zero e x h = absurd (omega arith)
below (suc n) e x h =
    let p = and_parts _ _ e in
    elim (cases_eq x n) [ inl same ↦ rw same p.0 | inr other ↦ below n p.1 x (omega arith) ]

all_ascii : quoted_below 128 ≡ true
all_ascii = refl

high_itself : (x : ℕ) → 128 ≤ x → quoted_byte x ≡ x ∷ []
high_itself x h = quoted_plain x (grind (arith, nat_tests))

quotes-append : (xs ys : List ℕ) → flat_map quoted_byte (xs ++ ys) ≡ flat_map quoted_byte xs ++ flat_map quoted_byte ys
quotes-append [] ys = refl
quotes-append (x ∷ xs) ys = ap (λ l. quoted_byte x ++ l) (quotes-append xs ys) ∙ sym (append_assoc (quoted_byte x) _ _)

quotes_high : (xs : List ℕ) → ((k : ℕ) → k < length xs → 128 ≤ get_or xs k 0) → flat_map quoted_byte xs ≡ xs
quotes_high [] h = refl
quotes_high (x ∷ xs) h =
    ap₂ (λ (a b : List ℕ). a ++ b) (high_itself x (h 0 (omega arith))) (quotes_high xs (λ k below. h (suc k) (omega arith)))

one_char : (c : ℕ) → scalar c ≡ true → IsUtf8 (flat_map quoted_byte (encode c))
one_char c ok = elim (cases_lt c 128) [
  | inl small ↦ rw (encode_ascii c small, append-nil) (by_test _ (below 128 all_ascii c small))
  | inr big ↦
      let high : (k : ℕ) → k < length (encode c) → 128 ≤ get_or (encode c) k 0 = λ k below. elim (cases_lt (get_or (encode c) k 0) 128) [
        | inl low ↦ absurd (omega (arith, inside_one c [] (encode c) k (sym (append-nil _)) below low))
        | inr h ↦ h
      ] in
      subst IsUtf8 (sym (quotes_high (encode c) high)) (IsUtf8-encode c ok)
]

all_chars : (cs : List ℕ) → scalars cs ≡ true → IsUtf8 (flat_map quoted_byte (encodes cs))
all_chars [] e = IsUtf8-nil
all_chars (c ∷ cs) e =
    let p = and_parts _ _ e in
    subst IsUtf8 (sym (quotes-append (encode c) (encodes cs))) (IsUtf8-append _ _ (one_char c p.0) (all_chars cs p.1))

quoted_utf8 : (text : List ℕ) → IsUtf8 text → IsUtf8 (between_quotes text)
quoted_utf8 text u =
    let inside : IsUtf8 (flat_map quoted_byte text) = subst (λ l. IsUtf8 (flat_map quoted_byte l)) u.1.1 (all_chars u.0 u.1.0) in
    ascii_then 34 _ (omega arith) (IsUtf8-append (flat_map quoted_byte text) (34 ∷ []) inside (by_test (34 ∷ []) refl))

-- ---- numbers

chosen : (test : Bool) (x y : List ℕ) → IsUtf8 x → IsUtf8 y → IsUtf8 (if test then x else y)
chosen true x y p q = p
chosen false x y p q = q

digits_utf8 : (k n : ℕ) (behind : List ℕ) → IsUtf8 behind → IsUtf8 (digits_onto k 10 false n behind)
digits_utf8 zero n behind p = p
digits_utf8 (suc k) n behind p =
    let low : n % 10 < 10 = omega arith in
    let digit : digit_glyph false (n % 10) ≡ 48 + n % 10 = grind (arith, nat_tests) in
    let here : IsUtf8 (digit_glyph false (n % 10) ∷ behind) = ascii_then (digit_glyph false (n % 10)) behind (omega (arith, digit, low)) p in
    chosen (n / 10 == 0) (digit_glyph false (n % 10) ∷ behind) (digits_onto k 10 false (n / 10) (digit_glyph false (n % 10) ∷ behind)) here
    (digits_utf8 k (n / 10) (digit_glyph false (n % 10) ∷ behind) here)

pub decimal_utf8 : (n : ℕ) → IsUtf8 (decimal n)
unfolding digits
decimal_utf8 n = digits_utf8 64 n [] IsUtf8-nil

number_utf8 : (z : ℤ) → IsUtf8 (signed_decimal z)
number_utf8 (pos n) = decimal_utf8 n
number_utf8 (negsuc n) = ascii_then 45 (decimal (suc n)) (omega arith) (decimal_utf8 (suc n))

-- ---- values

pub printed_utf8 : (value : Value) → IsWithin value → IsUtf8 (printed_value value)
printed_utf8 (Int number) within = number_utf8 number
printed_utf8 (Words text) within = quoted_utf8 text within.1
printed_utf8 (Bad Overflow) within = by_test (fault_text Overflow) refl
printed_utf8 (Bad Zero) within = by_test (fault_text Zero) refl
printed_utf8 (Bad Long) within = by_test (fault_text Long) refl
printed_utf8 (Bad Number) within = by_test (fault_text Number) refl
printed_utf8 (Bad Empty) within = by_test (fault_text Empty) refl
