-- What is printed inside a line has no LF.
use Rattle.std.proofs.Common.{◌≡◌, ◌≢◌, ◌∙◌, sym, ap, refl, ℕ, zero, suc, ◌+◌, ◌/◌, ◌%◌, arith, Bool, true, false, ◌==◌, nat_lt, List, [], ◌∷◌, ◌++◌, if◌then◌else◌, flat_map}
use Rattle.std.specs.Prelude.{ℤ, pos, negsuc}
use Rattle.std.specs.Fmt.{digit_glyph, digits, digits_onto, decimal, signed_decimal}
use Rattle.svc_value.specs.declared.value.Fault.{Fault}
use Rattle.svc_value.specs.declared.value.Fault.TheVariants.{Overflow, Zero, Long, Number, Empty}
use Rattle.svc_value.specs.declared.value.Value.{Value}
use Rattle.svc_value.specs.declared.value.Value.TheVariants.{Int, Words, Bad}
use Rattle.svc_value.specs.Printed.{is_escaped, hex_escape, quoted_byte, fault_text, printed_value}
use Rattle.trace_text.specs.Inside.Cutting.{Lacks}

-- none of the bytes is LF
abbrev pub Inside : List ℕ → Type 0
Inside bytes = Lacks 10 bytes

pub Inside-append : (xs ys : List ℕ) → Inside xs → Inside ys → Inside (xs ++ ys)
Inside-append [] ys p q = q
Inside-append (x ∷ xs) ys p q = (p.0, Inside-append xs ys p.1 q)

-- a test of it
abbrev is_inside : List ℕ → Bool
is_inside [] = true
is_inside (b ∷ bytes) = if b == 10 then false else is_inside bytes

-- a byte of which the test against LF fails is no LF
not_end : (b : ℕ) → (b == 10) ≡ false → b ≢ 10
not_end b other e = absurd (let same : (b == 10) ≡ true = ap (λ n. n == 10) e in let never : true ≡ false = sym same ∙ other in cc never)

pub by_test : (bytes : List ℕ) → is_inside bytes ≡ true → Inside bytes
by_test [] test = tt
by_test (b ∷ bytes) test = go (b == 10) refl test (λ h. by_test bytes h)
  where
    go : (found : Bool) → (b == 10) ≡ found → (if found then false else is_inside bytes) ≡ true → (is_inside bytes ≡ true → Inside bytes) → Inside (b ∷ bytes)
    go true same h rest = absurd (cc h)
    go false other h rest = (not_end b other, rest h)

-- of a choice it is enough that both sides have none
chosen : (test : Bool) (x y : List ℕ) → (test ≡ true → Inside x) → (test ≡ false → Inside y) → Inside (if test then x else y)
chosen true x y p q = p refl
chosen false x y p q = q refl

glyph_of : (test : Bool) (n : ℕ) → (if test then 48 + n else 87 + n) ≢ 10
glyph_of true n e = omega (arith, e)
glyph_of false n e = omega (arith, e)

glyph : (n : ℕ) → digit_glyph false n ≢ 10
glyph n = glyph_of (nat_lt n 10) n

digits_inside : (k n : ℕ) (behind : List ℕ) → Inside behind → Inside (digits_onto k 10 false n behind)
digits_inside zero n behind p = p
digits_inside (suc k) n behind p =
    chosen (n / 10 == 0) (digit_glyph false (n % 10) ∷ behind) (digits_onto k 10 false (n / 10) (digit_glyph false (n % 10) ∷ behind))
    (λ _. (glyph (n % 10), p)) (λ _. digits_inside k (n / 10) (digit_glyph false (n % 10) ∷ behind) (glyph (n % 10), p))

pub decimal_inside : (n : ℕ) → Inside (decimal n)
unfolding digits
decimal_inside n = digits_inside 64 n [] tt

number_inside : (z : ℤ) → Inside (signed_decimal z)
number_inside (pos n) = decimal_inside n
number_inside (negsuc n) = ((λ e. omega (arith, e)), decimal_inside (suc n))

escape_inside : (b : ℕ) → Inside (hex_escape b)
escape_inside b = Inside-append (92 ∷ 120 ∷ []) (digit_glyph false (b / 16) ∷ digit_glyph false (b % 16) ∷ []) (by_test (92 ∷ 120 ∷ []) refl) (glyph (b / 16), (glyph (b % 16), tt))

byte_inside : (b : ℕ) → Inside (quoted_byte b)
byte_inside b =
    chosen (b == 34) _ _ (λ _. by_test (92 ∷ 34 ∷ []) refl)
    (λ _. chosen (b == 92) _ _ (λ _. by_test (92 ∷ 92 ∷ []) refl)
    (λ _. chosen (b == 10) _ _ (λ _. by_test (92 ∷ 110 ∷ []) refl)
    (λ other. chosen (b == 9) _ _ (λ _. by_test (92 ∷ 116 ∷ []) refl)
    (λ _. chosen (is_escaped b) _ _ (λ _. escape_inside b) (λ _. (not_end b other, tt))))))

text_inside : (text : List ℕ) → Inside (flat_map quoted_byte text)
text_inside [] = tt
text_inside (b ∷ text) = Inside-append (quoted_byte b) (flat_map quoted_byte text) (byte_inside b) (text_inside text)

fault_inside : (fault : Fault) → Inside (fault_text fault)
fault_inside Overflow = by_test (fault_text Overflow) refl
fault_inside Zero = by_test (fault_text Zero) refl
fault_inside Long = by_test (fault_text Long) refl
fault_inside Number = by_test (fault_text Number) refl
fault_inside Empty = by_test (fault_text Empty) refl

pub printed_inside : (value : Value) → Inside (printed_value value)
printed_inside (Int number) = number_inside number
printed_inside (Words text) = ((λ e. omega (arith, e)), Inside-append (flat_map quoted_byte text) (34 ∷ []) (text_inside text) (by_test (34 ∷ []) refl))
printed_inside (Bad fault) = fault_inside fault
