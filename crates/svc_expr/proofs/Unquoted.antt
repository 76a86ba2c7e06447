-- What the code reads as a quoted text is one, and so the other way.
use Rattle.std.proofs.Common.{◌≡◌, ◌≢◌, ℕ, ◌*◌, ◌+◌, ◌/◌, ◌%◌, ◌<◌, ◌≤◌, ◌⊎◌, inl, inr, Bool, true, false, not, cond, ◌||◌, ◌&&◌, List, [], ◌∷◌, ◌++◌, length, Option, Some, None, true≢false, refl, sym, ap, subst, ◌∙◌, append_assoc, arith}
use Rattle.std.specs.Prelude.{◌==◌, nat_lt, option_map, option_and_then}
use Rattle.std.specs.Char.{digit_value}
use Rattle.std.specs.Fmt.{digit_glyph}
use Rattle.std.specs.List.{flat_map}
use Rattle.std.specs.Str.{IsUtf8}
use Rattle.std.proofs.lemmas.Bool.{cases_lt, cases_eq, cases_Bool, eqb-true, ne_eqb, ltb-true, lt-ltb}
use Rattle.std.proofs.lemmas.Bool.Decides.{nat_tests}
use Rattle.svc_value.specs.declared.value.Value.TheVariants.{Words}
use Rattle.svc_value.specs.Literal.{IsLiteral}
use Rattle.svc_value.specs.Printed.{is_escaped, quoted_byte, between_quotes, hex_escape as hex_printed}
use Rattle.svc_value.specs.Quoted.{any_form, is_itself, short_escape, hex_escape, Spells, closing, itself, short, hex, IsQuoted}
use Rattle.svc_value.proofs.InsidePlaces.{hex_parts}
use Rattle.svc_expr.specs.declared.quoting.Place.{Place}
use Rattle.svc_expr.specs.declared.quoting.Place.TheVariants.{Plain, Escape, High, Low, Closed}
use Rattle.svc_expr.specs.Quoted.{step, meaning_from, text_if, quoted_meaning}
use Rattle.svc_expr.proofs.QuotedLemmas.{Text, is_text, is_some_text}

-- one byte more
abbrev more : ℕ → Text → Text
more b meaning = option_map (λ text. b ∷ text) meaning

nothing_more : (meaning : Text) → option_map (λ text. text) meaning ≡ meaning
nothing_more None = refl
nothing_more (Some text) = refl

-- what follows a step
abbrev follows : List ℕ → Option (Place × List ℕ) → Text
follows rest o = option_and_then (λ x. option_map (λ text. x.1 ++ text) (meaning_from x.0 rest)) o

-- a byte that stands for itself
plain_step : (b : ℕ) → is_itself any_form b ≡ true → step Plain b ≡ Some (Plain, b ∷ [])
plain_step b = by (b == 34) (b == 92) (b == 10)
  where
    by : (p q r : Bool) → not (p || q || r) ≡ true → cond {A = Option (Place × List ℕ)} p (Some (Closed, [])) (cond q (Some (Escape, [])) (cond r None (Some (Plain, b ∷ [])))) ≡ Some (Plain, b ∷ [])
    by true q r h = absurd (true≢false (sym h))
    by false true r h = absurd (true≢false (sym h))
    by false false true h = absurd (true≢false (sym h))
    by false false false h = refl

-- a byte behind `\`
short_step : (b means : ℕ) → short_escape b ≡ Some means → step Escape b ≡ Some (Plain, means ∷ [])
short_step b means h = by (b == 120) (eqb-true b 120) h
  where
    by : (p : Bool) → (p ≡ true → b ≡ 120) → short_escape b ≡ Some means → cond {A = Option (Place × List ℕ)} p (Some (High, [])) (option_map (λ c. (Plain, c ∷ [])) (short_escape b)) ≡ Some (Plain, means ∷ [])
    by true e h = let none : None ≡ Some means = ap short_escape (sym (e refl)) ∙ h in absurd (cc)
    by false e h = ap (option_map (λ c. (Plain, c ∷ []))) h

high_step : (h : ℕ) → digit_value h < 8 → step High h ≡ Some (Low (digit_value h), [])
high_step h small = ap (λ b. cond b (Some (Low (digit_value h), [])) None) (lt-ltb (digit_value h) 8 small)

low_step : (high l : ℕ) → digit_value l < 16 → step (Low high) l ≡ Some (Plain, (high * 16 + digit_value l) ∷ [])
low_step high l small = ap (λ b. cond b (Some (Plain, (high * 16 + digit_value l) ∷ [])) None) (lt-ltb (digit_value l) 16 small)

-- what is spelled is read
spelled_is_read : (bytes text rest : List ℕ) → Spells any_form bytes text rest → rest ≡ [] → meaning_from Plain bytes ≡ Some text
spelled_is_read _ _ rest closing e = ap (λ l. meaning_from Plain (34 ∷ l)) e
spelled_is_read _ _ rest (itself {byte = b} {bytes = bytes} {text = text} k s) e =
    ap (follows bytes) (plain_step b k) ∙ ap (more b) (spelled_is_read bytes text rest s e)
spelled_is_read _ _ rest (short {byte = b} {means = means} {bytes = bytes} {text = text} k s) e =
    nothing_more (meaning_from Escape (b ∷ bytes)) ∙ ap (follows bytes) (short_step b means k) ∙ ap (more means) (spelled_is_read bytes text rest s e)
spelled_is_read _ _ rest (hex {high = h} {low = l} {means = means} {bytes = bytes} {text = text} k s) e =
    let parts = hex_parts any_form h l means k in
    nothing_more (meaning_from Escape (120 ∷ h ∷ l ∷ bytes))
    ∙ nothing_more (meaning_from High (h ∷ l ∷ bytes))
    ∙ ap (follows (l ∷ bytes)) (high_step h parts.0)
    ∙ nothing_more (meaning_from (Low (digit_value h)) (l ∷ bytes))
    ∙ ap (follows bytes) (low_step (digit_value h) l parts.1)
    ∙ ap (λ n. more n (meaning_from Plain bytes)) parts.2
    ∙ ap (more means) (spelled_is_read bytes text rest s e)

-- the bytes from a place on spell this text
abbrev SpelledFrom : Place → List ℕ → List ℕ → Type 0
SpelledFrom Plain bytes text = Spells any_form bytes text []
SpelledFrom Escape bytes text = Spells any_form (92 ∷ bytes) text []
SpelledFrom High bytes text = Spells any_form (92 ∷ 120 ∷ bytes) text []
SpelledFrom (Low high) bytes text = (h : ℕ) → digit_value h ≡ high → high < 8 → Spells any_form (92 ∷ 120 ∷ h ∷ bytes) text []
SpelledFrom Closed bytes text = (bytes ≡ []) × (text ≡ [])

-- with one byte before them
abbrev Led : ℕ → List ℕ → List ℕ → Place → Place × List ℕ → Type 0
Led b bytes text place next = SpelledFrom next.0 bytes text → SpelledFrom place (b ∷ bytes) (next.1 ++ text)

some_is : (x y : Place × List ℕ) → Some x ≡ Some y → x ≡ y
some_is x y h = cc

hex_made : (h l : ℕ) → digit_value h < 8 → digit_value l < 16 → hex_escape any_form h l ≡ Some (digit_value h * 16 + digit_value l)
hex_made h l p q = λ i. cond (lt-ltb (digit_value h) 8 p i && lt-ltb (digit_value l) 16 q i && true) (Some (digit_value h * 16 + digit_value l)) None

module _ (b : ℕ) (bytes text : List ℕ) where
  led_plain : (x : Place × List ℕ) → step Plain b ≡ Some x → Led b bytes text Plain x
  led_plain x = by (b == 34) (b == 92) (b == 10) (eqb-true b 34) (eqb-true b 92) (λ h. h)
    where
      by : (p q r : Bool) → (p ≡ true → b ≡ 34) → (q ≡ true → b ≡ 92) → (not (p || q || r) ≡ true → is_itself any_form b ≡ true)
          → cond p (Some (Closed, [])) (cond q (Some (Escape, [])) (cond r None (Some (Plain, b ∷ [])))) ≡ Some x → Led b bytes text Plain x
      by true q r e f g h =
          subst (Led b bytes text Plain) (some_is (Closed, []) x h)
          (λ s. subst (λ (c : ℕ). Spells any_form (c ∷ bytes) text []) (sym (e refl)) (subst (λ (t : List ℕ). Spells any_form (34 ∷ bytes) t []) (sym s.1) (subst (λ (l : List ℕ). Spells any_form (34 ∷ l) [] []) (sym s.0) closing)))
      by false true r e f g h = subst (Led b bytes text Plain) (some_is (Escape, []) x h) (λ s. subst (λ (c : ℕ). Spells any_form (c ∷ bytes) text []) (sym (f refl)) s)
      by false false true e f g h = absurd (cc)
      by false false false e f g h = subst (Led b bytes text Plain) (some_is (Plain, b ∷ []) x h) (λ s. itself (g refl) s)

  led_short : (x : Place × List ℕ) (o : Option ℕ) → short_escape b ≡ o → option_map (λ c. (Plain, c ∷ [])) o ≡ Some x → Led b bytes text Escape x
  led_short x (Some means) k h = subst (Led b bytes text Escape) (some_is (Plain, means ∷ []) x h) (λ s. short k s)
  led_short x None k h = absurd (cc)

  led_escape : (x : Place × List ℕ) → step Escape b ≡ Some x → Led b bytes text Escape x
  led_escape x = by (b == 120) (eqb-true b 120)
    where
      by : (p : Bool) → (p ≡ true → b ≡ 120) → cond p (Some (High, [])) (option_map (λ c. (Plain, c ∷ [])) (short_escape b)) ≡ Some x → Led b bytes text Escape x
      by true e h = subst (Led b bytes text Escape) (some_is (High, []) x h) (λ s. subst (λ (c : ℕ). Spells any_form (92 ∷ c ∷ bytes) text []) (sym (e refl)) s)
      by false e h = led_short x (short_escape b) refl h

  led_high : (x : Place × List ℕ) → step High b ≡ Some x → Led b bytes text High x
  led_high x = by (nat_lt (digit_value b) 8) (ltb-true (digit_value b) 8)
    where
      by : (p : Bool) → (p ≡ true → digit_value b < 8) → cond p (Some (Low (digit_value b), [])) None ≡ Some x → Led b bytes text High x
      by true e h = subst (Led b bytes text High) (some_is (Low (digit_value b), []) x h) (λ s. s b refl (e refl))
      by false e h = absurd (cc)

  led_low : (high : ℕ) (x : Place × List ℕ) → step (Low high) b ≡ Some x → Led b bytes text (Low high) x
  led_low high x = by (nat_lt (digit_value b) 16) (ltb-true (digit_value b) 16)
    where
      by : (p : Bool) → (p ≡ true → digit_value b < 16) → cond p (Some (Plain, (high * 16 + digit_value b) ∷ [])) None ≡ Some x → Led b bytes text (Low high) x
      by true e h =
          subst (Led b bytes text (Low high)) (some_is (Plain, (high * 16 + digit_value b) ∷ []) x h)
          (λ s d same small. hex (hex_made d b (subst (λ (n : ℕ). n < 8) (sym same) small) (e refl) ∙ ap (λ (n : ℕ). Some (n * 16 + digit_value b)) same) s)
      by false e h = absurd (cc)

  led : (place : Place) (x : Place × List ℕ) → step place b ≡ Some x → Led b bytes text place x
  led Plain x h = led_plain x h
  led Escape x h = led_escape x h
  led High x h = led_high x h
  led (Low high) x h = led_low high x h
  led Closed x h = absurd (cc)

-- what was read behind one byte
record Split (o : Option (Place × List ℕ)) (bytes text : List ℕ) : Type 0 where
  next : Place × List ℕ
  rest : List ℕ
  stepped : o ≡ Some next
  read : meaning_from next.0 bytes ≡ Some rest
  whole : next.1 ++ rest ≡ text

split : (o : Option (Place × List ℕ)) (bytes text : List ℕ) → follows bytes o ≡ Some text → Split o bytes text
split None bytes text h = absurd (cc)
split (Some x) bytes text h = by (meaning_from x.0 bytes) refl h
  where
    by : (m : Text) → meaning_from x.0 bytes ≡ m → option_map (λ t. x.1 ++ t) m ≡ Some text → Split (Some x) bytes text
    by None e h = absurd (cc)
    by (Some t) e h = record { next = x; rest = t; stepped = refl; read = e; whole = cc }

-- what is read is spelled
read_is_spelled : (bytes : List ℕ) (place : Place) (text : List ℕ) → meaning_from place bytes ≡ Some text → SpelledFrom place bytes text
read_is_spelled [] Closed text h = (refl, cc)
read_is_spelled [] place text h = absurd (cc)
read_is_spelled (b ∷ bytes) place text h =
    let s = split (step place b) bytes text h in
    subst (SpelledFrom place (b ∷ bytes)) s.whole (led b bytes s.rest place s.next s.stepped (read_is_spelled bytes s.next.0 s.rest s.read))

pub literal_is_read : (raw text : List ℕ) → IsLiteral raw (Words text) → quoted_meaning raw ≡ Some text
unfolding quoted_meaning
literal_is_read raw text q =
    ap quoted_meaning q.opening ∙ ap (option_and_then text_if) (spelled_is_read q.inside text [] q.spelled refl) ∙ sym (is_text text q.most q.utf8)

pub read_is_literal : (raw text : List ℕ) → quoted_meaning raw ≡ Some text → IsLiteral raw (Words text)
unfolding quoted_meaning
read_is_literal [] text = λ h. absurd (cc)
read_is_literal (b ∷ inside) text = by (b == 34) (eqb-true b 34)
  where
    by : (p : Bool) → (p ≡ true → b ≡ 34) → cond p (option_and_then text_if (meaning_from Plain inside)) None ≡ Some text → IsQuoted any_form (b ∷ inside) text []
    by true e h =
        let t = is_some_text (meaning_from Plain inside) text h in
        record { inside = inside; opening = ap (λ c. c ∷ inside) (e refl); spelled = read_is_spelled inside Plain text t.0; most = t.1; utf8 = t.2 }
    by false e h = absurd (cc)

-- how a byte is printed that has no escape of its own
pub quoted_else : (b : ℕ) → b ≢ 34 → b ≢ 92 → b ≢ 10 → b ≢ 9 → quoted_byte b ≡ cond (is_escaped b) (hex_printed b) (b ∷ [])
quoted_else b f g h i =
    ap (λ (t : Bool). cond t (92 ∷ 34 ∷ []) (cond (b == 92) (92 ∷ 92 ∷ []) (cond (b == 10) (92 ∷ 110 ∷ []) (cond (b == 9) (92 ∷ 116 ∷ []) (cond (is_escaped b) (hex_printed b) (b ∷ [])))))) (ne_eqb b 34 f)
    ∙ ap (λ (t : Bool). cond t (92 ∷ 92 ∷ []) (cond (b == 10) (92 ∷ 110 ∷ []) (cond (b == 9) (92 ∷ 116 ∷ []) (cond (is_escaped b) (hex_printed b) (b ∷ []))))) (ne_eqb b 92 g)
    ∙ ap (λ (t : Bool). cond t (92 ∷ 110 ∷ []) (cond (b == 9) (92 ∷ 116 ∷ []) (cond (is_escaped b) (hex_printed b) (b ∷ [])))) (ne_eqb b 10 h)
    ∙ ap (λ (t : Bool). cond t (92 ∷ 116 ∷ []) (cond (is_escaped b) (hex_printed b) (b ∷ []))) (ne_eqb b 9 i)

glyph_value : (d : ℕ) → d < 16 → digit_value (digit_glyph false d) ≡ d
glyph_value d h = elim (cases_lt d 10) [ inl k ↦ grind (arith, nat_tests) | inr k ↦ grind (arith, nat_tests) ]

-- a printed byte stands for itself
module _ (b : ℕ) (bytes text rest : List ℕ) (s : Spells any_form bytes text rest) where
  shown : (front : List ℕ) → quoted_byte b ≡ front → Spells any_form (front ++ bytes) (b ∷ text) rest → Spells any_form (quoted_byte b ++ bytes) (b ∷ text) rest
  shown front e t = subst (λ (l : List ℕ). Spells any_form (l ++ bytes) (b ∷ text) rest) (sym e) t

  shown_at : (k : ℕ) → b ≡ k → Spells any_form (quoted_byte k ++ bytes) (k ∷ text) rest → Spells any_form (quoted_byte b ++ bytes) (b ∷ text) rest
  shown_at k e t = subst (λ (n : ℕ). Spells any_form (quoted_byte n ++ bytes) (n ∷ text) rest) (sym e) t

  hexed : b < 128 → Spells any_form (hex_printed b ++ bytes) (b ∷ text) rest
  hexed h =
      let high : digit_value (digit_glyph false (b / 16)) ≡ b / 16 = glyph_value (b / 16) (omega arith) in
      let low : digit_value (digit_glyph false (b % 16)) ≡ b % 16 = glyph_value (b % 16) (omega arith) in
      let sum : digit_value (digit_glyph false (b / 16)) * 16 + digit_value (digit_glyph false (b % 16)) ≡ b = omega arith in
      hex (hex_made (digit_glyph false (b / 16)) (digit_glyph false (b % 16)) (omega arith) (omega arith) ∙ ap (λ (n : ℕ). Some n) sum) s

  shown_byte : Spells any_form (quoted_byte b ++ bytes) (b ∷ text) rest
  shown_byte = by (cases_eq b 34) (cases_eq b 92) (cases_eq b 10) (cases_eq b 9) (cases_Bool (is_escaped b))
    where
      by : (b ≡ 34) ⊎ (b ≢ 34) → (b ≡ 92) ⊎ (b ≢ 92) → (b ≡ 10) ⊎ (b ≢ 10) → (b ≡ 9) ⊎ (b ≢ 9) → (is_escaped b ≡ true) ⊎ (is_escaped b ≡ false) → Spells any_form (quoted_byte b ++ bytes) (b ∷ text) rest
      by (inl e) _ _ _ _ = shown_at 34 e (short refl s)
      by (inr f) (inl e) _ _ _ = shown_at 92 e (short refl s)
      by (inr f) (inr g) (inl e) _ _ = shown_at 10 e (short refl s)
      by (inr f) (inr g) (inr h) (inl e) _ = shown_at 9 e (short refl s)
      by (inr f) (inr g) (inr h) (inr i) (inl e) =
          let low : b < 128 = grind (arith, nat_tests) in
          shown (hex_printed b) (quoted_else b f g h i ∙ ap (λ (t : Bool). cond t (hex_printed b) (b ∷ [])) e) (hexed low)
      by (inr f) (inr g) (inr h) (inr i) (inr e) =
          shown (b ∷ []) (quoted_else b f g h i ∙ ap (λ (t : Bool). cond t (hex_printed b) (b ∷ [])) e)
          (itself (λ j. not (ne_eqb b 34 f j || ne_eqb b 92 g j || ne_eqb b 10 h j)) s)

shown_text : (text : List ℕ) → Spells any_form (flat_map quoted_byte text ++ 34 ∷ []) text []
shown_text [] = closing
shown_text (b ∷ text) =
    subst (λ (l : List ℕ). Spells any_form l (b ∷ text) []) (sym (append_assoc (quoted_byte b) (flat_map quoted_byte text) (34 ∷ [])))
    (shown_byte b (flat_map quoted_byte text ++ 34 ∷ []) text [] (shown_text text))

pub quoted_is_literal : (text : List ℕ) → length text ≤ 256 → IsUtf8 text → IsLiteral (between_quotes text) (Words text)
quoted_is_literal text most utf8 = record { inside = flat_map quoted_byte text ++ 34 ∷ []; opening = refl; spelled = shown_text text; most = most; utf8 = utf8 }
