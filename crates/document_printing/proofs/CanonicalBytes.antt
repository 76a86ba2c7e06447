-- What is printed in a line is UTF-8 and has no LF.
use Rattle.std.proofs.Common.{◌≡◌, ◌≢◌, ℕ, zero, suc, ◌<◌, ◌≤◌, Bool, true, false, List, [], ◌∷◌, ◌++◌, length, get_or, IsUtf8, ◌+◌, inl, inr, refl, sym, ap, ap₂, ◌∙◌, subst, arith, append_assoc, append-nil, flat_map}
use Rattle.std.specs.Prelude.{◌&&◌, ◌==◌, not, nat_lt, pos, negsuc, ℤ, ◌/◌, ◌%◌, if◌then◌else◌}
use Rattle.std.specs.Char.{is_ascii_alphabetic}
use Rattle.std.specs.Fmt.{digit_glyph, digits, digits_onto, decimal, signed_decimal}
use Rattle.std.specs.List.{list_all}
use Rattle.std.proofs.lemmas.Bool.{and_parts, cases_lt, cases_eq}
use Rattle.std.proofs.lemmas.Bool.Decides.{nat_tests}
use Rattle.std.proofs.lemmas.Str.{IsUtf8-append, IsUtf8-nil, IsUtf8-encode, encode_ascii, inside_one}
use lib.Utf8.{scalar, scalars, encode, encodes, low_scalar}
use Rattle.svc_token.specs.Word.{is_word_byte, is_word, IsName}
use Rattle.svc_token.proofs.WordLemmas.{IsName-utf8}
use Rattle.svc_value.specs.Printed.{quoted_byte, between_quotes}
use Rattle.svc_value.proofs.Quoting.{quoted_plain}

-- ---- texts of a line

-- none of the bytes is LF
abbrev pub HasNoEnd : List ℕ → Type 0
HasNoEnd [] = Unit {0}
HasNoEnd (b ∷ bytes) = (b ≢ 10) × HasNoEnd bytes

-- the bytes may stand inside a line
pub record IsInner (bytes : List ℕ) : Type 0 where
  pub utf8 : IsUtf8 bytes
  pub no_end : HasNoEnd bytes

no_end-append : (xs ys : List ℕ) → HasNoEnd xs → HasNoEnd ys → HasNoEnd (xs ++ ys)
no_end-append [] ys p q = q
no_end-append (x ∷ xs) ys p q = (p.0, no_end-append xs ys p.1 q)

pub inner-append : {xs ys : List ℕ} → IsInner xs → IsInner ys → IsInner (xs ++ ys)
inner-append {xs = xs} {ys = ys} p q = record { utf8 = IsUtf8-append xs ys p.utf8 q.utf8; no_end = no_end-append xs ys p.no_end q.no_end }

pub inner-nil : IsInner []
inner-nil = record { utf8 = IsUtf8-nil; no_end = tt }

ascii_then : (x : ℕ) (xs : List ℕ) → x < 128 → IsUtf8 xs → IsUtf8 (x ∷ xs)
ascii_then x xs small u = IsUtf8-append (x ∷ []) xs (subst IsUtf8 (encode_ascii x small) (IsUtf8-encode x (low_scalar x (omega arith)))) u

inner_then : (x : ℕ) (xs : List ℕ) → x < 128 → x ≢ 10 → IsInner xs → IsInner (x ∷ xs)
inner_then x xs small other u = record { utf8 = ascii_then x xs small u.utf8; no_end = (other, u.no_end) }

-- a byte of ASCII that is no LF
abbrev pub is_plain : ℕ → Bool
is_plain x = nat_lt x 128 && not (x == 10)

-- each byte is
abbrev pub are_plain : List ℕ → Bool
are_plain [] = true
are_plain (x ∷ xs) = is_plain x && are_plain xs

plain_is : (x : ℕ) → is_plain x ≡ true → (x < 128) × (x ≢ 10)
plain_is x h = (grind (arith, nat_tests), λ e. absurd (let never : is_plain 10 ≡ true = sym (ap is_plain e) ∙ h in cc never))

pub by_test : (xs : List ℕ) → are_plain xs ≡ true → IsInner xs
by_test [] e = inner-nil
by_test (x ∷ xs) e = let p = and_parts _ _ e in let q = plain_is x p.0 in inner_then x xs q.0 q.1 (by_test xs p.1)

-- ---- quoted texts

-- what stands for the bytes below n is plain
abbrev quoted_below : ℕ → Bool
quoted_below zero = true
quoted_below (suc n) = are_plain (quoted_byte n) && quoted_below n

below : (n : ℕ) → quoted_below n ≡ true → (x : ℕ) → x < n → are_plain (quoted_byte x) ≡ true
below zero e x h = absurd (omega arith)
below (suc n) e x h =
    let p = and_parts _ _ e in
    elim (cases_eq x n) [ inl same ↦ rw same p.0 | inr other ↦ below n p.1 x (omega arith) ]

all_plain : quoted_below 128 ≡ true
all_plain = refl

high_itself : (x : ℕ) → 128 ≤ x → quoted_byte x ≡ x ∷ []
high_itself x h = quoted_plain x (grind (arith, nat_tests))

quotes-append : (xs ys : List ℕ) → flat_map quoted_byte (xs ++ ys) ≡ flat_map quoted_byte xs ++ flat_map quoted_byte ys
quotes-append [] ys = refl
quotes-append (x ∷ xs) ys = ap (λ l. quoted_byte x ++ l) (quotes-append xs ys) ∙ sym (append_assoc (quoted_byte x) _ _)

quotes_high : (xs : List ℕ) → ((k : ℕ) → k < length xs → 128 ≤ get_or xs k 0) → flat_map quoted_byte xs ≡ xs
quotes_high [] h = refl
quotes_high (x ∷ xs) h =
    ap₂ (λ (a b : List ℕ). a ++ b) (high_itself x (h 0 (omega arith))) (quotes_high xs (λ k below. h (suc k) (omega arith)))

one_char : (c : ℕ) → scalar c ≡ true → IsUtf8 (flat_map quoted_byte (encode c))
one_char c ok = elim (cases_lt c 128) [
  | inl small ↦ rw (encode_ascii c small, append-nil) (by_test _ (below 128 all_plain c small)).utf8
  | inr big ↦
      let high : (k : ℕ) → k < length (encode c) → 128 ≤ get_or (encode c) k 0 = λ k below. elim (cases_lt (get_or (encode c) k 0) 128) [
        | inl low ↦ absurd (omega (arith, inside_one c [] (encode c) k (sym (append-nil _)) below low))
        | inr h ↦ h
      ] in
      subst IsUtf8 (sym (quotes_high (encode c) high)) (IsUtf8-encode c ok)
]

all_chars : (cs : List ℕ) → scalars cs ≡ true → IsUtf8 (flat_map quoted_byte (encodes cs))
all_chars [] e = IsUtf8-nil
all_chars (c ∷ cs) e =
    let p = and_parts _ _ e in
    subst IsUtf8 (sym (quotes-append (encode c) (encodes cs))) (IsUtf8-append _ _ (one_char c p.0) (all_chars cs p.1))

quoted_no_end : (xs : List ℕ) → HasNoEnd (flat_map quoted_byte xs)
quoted_no_end [] = tt
quoted_no_end (x ∷ xs) = no_end-append (quoted_byte x) (flat_map quoted_byte xs) byte (quoted_no_end xs)
  where
    byte : HasNoEnd (quoted_byte x)
    byte = elim (cases_lt x 128) [
      | inl small ↦ (by_test (quoted_byte x) (below 128 all_plain x small)).no_end
      | inr big ↦ subst HasNoEnd (sym (high_itself x big)) ((λ e. omega (arith, e, big)), tt)
    ]

pub quoted_inner : (text : List ℕ) → IsUtf8 text → IsInner (between_quotes text)
quoted_inner text u =
    let inside : IsInner (flat_map quoted_byte text) = record { utf8 = subst (λ l. IsUtf8 (flat_map quoted_byte l)) u.1.1 (all_chars u.0 u.1.0); no_end = quoted_no_end text } in
    inner_then 34 _ (omega arith) (λ e. omega (arith, e)) (inner-append inside (by_test (34 ∷ []) refl))

-- ---- numbers

chosen : (test : Bool) (x y : List ℕ) → IsInner x → IsInner y → IsInner (if test then x else y)
chosen true x y p q = p
chosen false x y p q = q

digits_inner : (k n : ℕ) (behind : List ℕ) → IsInner behind → IsInner (digits_onto k 10 false n behind)
digits_inner zero n behind p = p
digits_inner (suc k) n behind p =
    let low : n % 10 < 10 = omega arith in
    let digit : digit_glyph false (n % 10) ≡ 48 + n % 10 = grind (arith, nat_tests) in
    let here : IsInner (digit_glyph false (n % 10) ∷ behind) = inner_then (digit_glyph false (n % 10)) behind (omega (arith, digit, low)) (λ e. omega (arith, digit, e)) p in
    chosen (n / 10 == 0) (digit_glyph false (n % 10) ∷ behind) (digits_onto k 10 false (n / 10) (digit_glyph false (n % 10) ∷ behind)) here
    (digits_inner k (n / 10) (digit_glyph false (n % 10) ∷ behind) here)

decimal_inner : (n : ℕ) → IsInner (decimal n)
unfolding digits
decimal_inner n = digits_inner 64 n [] inner-nil

pub number_inner : (z : ℤ) → IsInner (signed_decimal z)
number_inner (pos n) = decimal_inner n
number_inner (negsuc n) = inner_then 45 (decimal (suc n)) (omega arith) (λ e. omega (arith, e)) (decimal_inner (suc n))

-- ---- names

word_bytes : (bytes : List ℕ) → list_all is_word_byte bytes ≡ true → HasNoEnd bytes
word_bytes [] h = tt
word_bytes (b ∷ bytes) h =
    let p = and_parts (is_word_byte b) (list_all is_word_byte bytes) h in
    ((λ e. absurd (let never : true ≡ false = sym p.0 ∙ ap is_word_byte e in cc never)), word_bytes bytes p.1)

word_no_end : (word : List ℕ) → is_word word ≡ true → HasNoEnd word
word_no_end [] h = absurd (cc h)
word_no_end (b ∷ bytes) h =
    let p = and_parts (is_ascii_alphabetic b) (list_all is_word_byte bytes) h in
    ((λ e. absurd (let never : true ≡ false = sym p.0 ∙ ap is_ascii_alphabetic e in cc never)), word_bytes bytes p.1)

pub name_inner : (name : List ℕ) → IsName name → IsInner name
name_inner name is = record { utf8 = IsName-utf8 name is; no_end = word_no_end name is.is_word }
