-- A printed text is cut as one token.
use Rattle.std.proofs.Common.{◌≡◌, ◌≢◌, ℕ, ◌+◌, ◌/◌, ◌%◌, ◌<◌, ◌≤◌, ◌⊎◌, inl, inr, Bool, true, false, cond, List, [], ◌∷◌, ◌++◌, length, take, Some, refl, sym, ap, ◌∙◌, append_assoc, length-append, arith}
use Rattle.std.specs.Prelude.{◌==◌, option_map}
use Rattle.std.specs.Fmt.{digit_glyph}
use Rattle.std.specs.List.{flat_map}
use Rattle.std.proofs.lemmas.Bool.{cases_lt, cases_eq, cases_Bool, ne_eqb}
use Rattle.std.proofs.lemmas.Bool.Decides.{nat_tests}
use Rattle.svc_token.specs.declared.token.Token.TheVariants.{Quoted}
use Rattle.svc_token.specs.Cutting.{closing, quoted_at, front}
use Rattle.svc_value.specs.Printed.{is_escaped, quoted_byte, between_quotes, hex_escape}
use Rattle.svc_expr.proofs.Unquoted.{quoted_else}

-- a byte that is neither a quote nor a backslash
plain_on : (n b : ℕ) (rest : List ℕ) → b ≢ 34 → b ≢ 92 → closing n false (b ∷ rest) ≡ closing (n + 1) false rest
plain_on n b rest f g =
    ap (λ (t : Bool). cond t (Some (n + 1)) (closing (n + 1) (b == 92) rest)) (ne_eqb b 34 f)
    ∙ ap (λ (t : Bool). closing (n + 1) t rest) (ne_eqb b 92 g)

glyph_low : (d : ℕ) → d < 10 → digit_glyph false d ≡ 48 + d
glyph_low d h = grind (arith, nat_tests)

glyph_high : (d : ℕ) → 10 ≤ d → digit_glyph false d ≡ 87 + d
glyph_high d h = grind (arith, nat_tests)

-- a hexadecimal digit is neither a quote nor a backslash
glyph_not : (d k : ℕ) → d < 16 → (k ≡ 34) ⊎ (k ≡ 92) → digit_glyph false d ≢ k
glyph_not d k h (inl e) q = elim (cases_lt d 10) [ inl l ↦ let v = glyph_low d l in absurd (omega arith) | inr g ↦ let v = glyph_high d g in absurd (omega arith) ]
glyph_not d k h (inr e) q = elim (cases_lt d 10) [ inl l ↦ let v = glyph_low d l in absurd (omega arith) | inr g ↦ let v = glyph_high d g in absurd (omega arith) ]

two_on : (n b : ℕ) (rest : List ℕ) → closing n false (92 ∷ b ∷ rest) ≡ closing (n + 2) false rest
two_on n b rest = ap (λ (m : ℕ). closing m false rest) (omega arith)

hex_on : (n b : ℕ) (rest : List ℕ) → b < 128 → closing n false (hex_escape b ++ rest) ≡ closing (n + 4) false rest
hex_on n b rest h =
    two_on n 120 (digit_glyph false (b / 16) ∷ digit_glyph false (b % 16) ∷ rest)
    ∙ plain_on (n + 2) (digit_glyph false (b / 16)) (digit_glyph false (b % 16) ∷ rest) (glyph_not (b / 16) 34 (omega arith) (inl refl)) (glyph_not (b / 16) 92 (omega arith) (inr refl))
    ∙ plain_on (n + 2 + 1) (digit_glyph false (b % 16)) rest (glyph_not (b % 16) 34 (omega arith) (inl refl)) (glyph_not (b % 16) 92 (omega arith) (inr refl))
    ∙ ap (λ (m : ℕ). closing m false rest) (omega arith)

byte_on : (n b : ℕ) (rest : List ℕ) → closing n false (quoted_byte b ++ rest) ≡ closing (n + length (quoted_byte b)) false rest
byte_on n b rest = by (cases_eq b 34) (cases_eq b 92) (cases_eq b 10) (cases_eq b 9) (cases_Bool (is_escaped b))
  where
    at : (k : ℕ) → b ≡ k → closing n false (quoted_byte k ++ rest) ≡ closing (n + length (quoted_byte k)) false rest → closing n false (quoted_byte b ++ rest) ≡ closing (n + length (quoted_byte b)) false rest
    at k e h = ap (λ (m : ℕ). closing n false (quoted_byte m ++ rest)) e ∙ h ∙ ap (λ (m : ℕ). closing (n + length (quoted_byte m)) false rest) (sym e)

    shown : (bytes : List ℕ) → quoted_byte b ≡ bytes → closing n false (bytes ++ rest) ≡ closing (n + length bytes) false rest → closing n false (quoted_byte b ++ rest) ≡ closing (n + length (quoted_byte b)) false rest
    shown bytes e h = ap (λ (l : List ℕ). closing n false (l ++ rest)) e ∙ h ∙ ap (λ (l : List ℕ). closing (n + length l) false rest) (sym e)

    by : (b ≡ 34) ⊎ (b ≢ 34) → (b ≡ 92) ⊎ (b ≢ 92) → (b ≡ 10) ⊎ (b ≢ 10) → (b ≡ 9) ⊎ (b ≢ 9) → (is_escaped b ≡ true) ⊎ (is_escaped b ≡ false) → closing n false (quoted_byte b ++ rest) ≡ closing (n + length (quoted_byte b)) false rest
    by (inl e) _ _ _ _ = at 34 e (two_on n 34 rest)
    by (inr f) (inl e) _ _ _ = at 92 e (two_on n 92 rest)
    by (inr f) (inr g) (inl e) _ _ = at 10 e (two_on n 110 rest)
    by (inr f) (inr g) (inr h) (inl e) _ = at 9 e (two_on n 116 rest)
    by (inr f) (inr g) (inr h) (inr i) (inl e) =
        let low : b < 128 = grind (arith, nat_tests) in
        shown (hex_escape b) (quoted_else b f g h i ∙ ap (λ (t : Bool). cond t (hex_escape b) (b ∷ [])) e) (hex_on n b rest low)
    by (inr f) (inr g) (inr h) (inr i) (inr e) = shown (b ∷ []) (quoted_else b f g h i ∙ ap (λ (t : Bool). cond t (hex_escape b) (b ∷ [])) e) (plain_on n b rest f g)

-- the quote that closes a printed text is its last byte
text_on : (n : ℕ) (text rest : List ℕ) → closing n false (flat_map quoted_byte text ++ 34 ∷ rest) ≡ Some (n + length (flat_map quoted_byte text) + 1)
text_on n [] rest = ap (λ (m : ℕ). Some m) (omega arith)
text_on n (b ∷ text) rest =
    ap (closing n false) (append_assoc (quoted_byte b) (flat_map quoted_byte text) (34 ∷ rest))
    ∙ byte_on n b (flat_map quoted_byte text ++ 34 ∷ rest)
    ∙ text_on (n + length (quoted_byte b)) text rest
    ∙ ap (λ (m : ℕ). Some m) (omega (arith, length-append (quoted_byte b) (flat_map quoted_byte text)))

take_front : (xs ys : List ℕ) → take (length xs) (xs ++ ys) ≡ xs
take_front [] ys = refl
take_front (x ∷ xs) ys = ap (λ (l : List ℕ). x ∷ l) (take_front xs ys)

pub quoted_front : (text rest : List ℕ) → front (between_quotes text ++ rest) ≡ Some (Quoted (between_quotes text), length (between_quotes text))
unfolding front quoted_at
quoted_front text rest =
    let inside = flat_map quoted_byte text in
    let count : 1 + length inside + 1 ≡ length (between_quotes text) = omega (arith, length-append inside (34 ∷ [])) in
    ap (λ (l : List ℕ). option_map (λ n. (Quoted (take n (between_quotes text ++ rest)), n)) (closing 1 false l)) (append_assoc inside (34 ∷ []) rest)
    ∙ ap (option_map (λ n. (Quoted (take n (between_quotes text ++ rest)), n))) (text_on 1 text rest)
    ∙ ap (λ (n : ℕ). Some (Quoted (take n (between_quotes text ++ rest)), n)) count
    ∙ ap (λ (l : List ℕ). Some (Quoted l, length (between_quotes text))) (take_front (between_quotes text) rest)
