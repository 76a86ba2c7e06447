-- Numbers, names and bytes in trace lines are told apart.
use Rattle.std.proofs.Common.{rules, ◌≡◌, ◌≢◌, ◌∙◌, sym, ap, ap₂, refl, ℕ, ◌/◌, ◌%◌, ◌<◌, ◌^◌, arith, true, false, List, [], ◌∷◌, length, get_or, drop, inl, inr}
use Rattle.std.proofs.lemmas.Bool.{cases_lt}
use Rattle.std.proofs.lemmas.Bool.Decides.{nat_tests}
use Rattle.std.proofs.lemmas.Fmt.{digits_decimal, decimal_nonempty}
use Rattle.std.proofs.lemmas.Str.Parse.{IsNumeralModel, numerals_by_fold, tells_all_ascii_digits}
use Rattle.std.specs.Char.{digit_value, is_ascii_digit, is_ascii_alphabetic}
use Rattle.std.specs.Fmt.{digit_glyph, decimal}
use Rattle.std.specs.List.{list_all}
use Rattle.std.specs.Str.{all_ascii_digits}
use Rattle.svc_token.specs.Word.{is_word_byte, is_word, IsName, number_from}
use Rattle.trace_text.specs.Lines.{hex}
use Rattle.trace_text.specs.Inside.Cutting.{Lacks}
use Rattle.trace_text.proofs.Words.{Lacks-all, Each, and_left, and_right}

-- ---- numbers

pub own : IsNumeralModel (λ ds. all_ascii_digits ds ≡ true) (number_from 0)
own = numerals_by_fold _ tells_all_ascii_digits number_from (search rules)

digits_lack : (stop : ℕ) (bytes : List ℕ) → all_ascii_digits bytes ≡ true → is_ascii_digit stop ≡ false → Lacks stop bytes
digits_lack stop bytes h other = Lacks-all is_ascii_digit stop bytes h other

pub decimal-lacks : (stop n : ℕ) → n < 2 ^ 64 → is_ascii_digit stop ≡ false → Lacks stop (decimal n)
decimal-lacks stop n small other = digits_lack stop (decimal n) (digits_decimal own n small) other

pub decimal-some : (n : ℕ) → n < 2 ^ 64 → 0 < length (decimal n)
decimal-some n small = decimal_nonempty n small

-- ---- names

letter_other : (b stop : ℕ) → is_ascii_alphabetic b ≡ true → is_ascii_alphabetic stop ≡ false → b ≢ stop
letter_other b stop letter other e = absurd (let never : true ≡ false = sym letter ∙ ap is_ascii_alphabetic e ∙ other in cc never)

word-lacks : (stop : ℕ) (word : List ℕ) → is_word word ≡ true → is_word_byte stop ≡ false → is_ascii_alphabetic stop ≡ false → Lacks stop word
word-lacks stop [] h other no_letter = tt
word-lacks stop (b ∷ bytes) h other no_letter = (
  letter_other b stop (and_left (is_ascii_alphabetic b) (list_all is_word_byte bytes) h) no_letter,
  Lacks-all is_word_byte stop bytes (and_right (is_ascii_alphabetic b) (list_all is_word_byte bytes) h) other,
)

pub name-lacks : (stop : ℕ) (word : List ℕ) → IsName word → is_word_byte stop ≡ false → is_ascii_alphabetic stop ≡ false → Lacks stop word
name-lacks stop word name other no_letter = word-lacks stop word name.is_word other no_letter

pub name-some : (word : List ℕ) → IsName word → 0 < length word
name-some [] name = absurd (cc (name.is_word))
name-some (b ∷ bytes) name = omega arith

-- ---- bytes

glyph_value : (d : ℕ) → d < 16 → digit_value (digit_glyph false d) ≡ d
glyph_value d h = elim (cases_lt d 10) [ inl k ↦ grind (arith, nat_tests) | inr k ↦ grind (arith, nat_tests) ]

one_glyph : (d e : ℕ) → d < 16 → e < 16 → digit_glyph false d ≡ digit_glyph false e → d ≡ e
one_glyph d e p q same = sym (glyph_value d p) ∙ ap digit_value same ∙ glyph_value e q

-- the digits are all above the blank
glyph_above : (d : ℕ) → 32 < digit_glyph false d
glyph_above d = elim (cases_lt d 10) [ inl k ↦ grind (arith, nat_tests) | inr k ↦ grind (arith, nat_tests) ]

pub hex-lacks : (stop : ℕ) (bytes : List ℕ) → stop < 33 → Lacks stop (hex bytes)
hex-lacks stop [] low = tt
hex-lacks stop (b ∷ bytes) low = (
  (λ e. absurd (omega (arith, low, e, glyph_above (b / 16)))),
  ((λ e. absurd (omega (arith, low, e, glyph_above (b % 16)))), hex-lacks stop bytes low),
)

pub one_hex : (xs ys : List ℕ) → Each (λ b. b < 256) xs → Each (λ b. b < 256) ys → hex xs ≡ hex ys → xs ≡ ys
one_hex [] [] p q e = refl
one_hex [] (y ∷ ys) p q e = absurd (omega (arith, ap length e))
one_hex (x ∷ xs) [] p q e = absurd (omega (arith, ap length e))
one_hex (x ∷ xs) (y ∷ ys) p q e =
    let high : x / 16 ≡ y / 16 = one_glyph (x / 16) (y / 16) (omega (arith, p.0)) (omega (arith, q.0)) (ap (λ (l : List ℕ). get_or l 0 0) e) in
    let low : x % 16 ≡ y % 16 = one_glyph (x % 16) (y % 16) (omega arith) (omega arith) (ap (λ (l : List ℕ). get_or l 1 0) e) in
    let same : x ≡ y = omega (arith, high, low) in
    ap₂ (λ (b : ℕ) (bs : List ℕ). b ∷ bs) same (one_hex xs ys p.1 q.1 (ap (λ (l : List ℕ). drop 2 l) e))
