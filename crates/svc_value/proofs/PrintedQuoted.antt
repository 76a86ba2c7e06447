-- What printing writes between quotes is the printed form of a quoted text.
use Rattle.std.proofs.Common.{◌≡◌, ◌≢◌, refl, sym, ap, subst, ◌∙◌, ℕ, ◌+◌, ◌*◌, ◌/◌, ◌%◌, ◌<◌, ◌≤◌, ◌⊎◌, inl, inr, Bool, true, false, not, List, [], ◌∷◌, ◌++◌, length, Some, None, arith, append_assoc, IsUtf8, cond, ltb}
use Rattle.std.proofs.lemmas.Bool.{cases_lt, cases_eq, cases_Bool, and_parts, eqb-true, eq-eqb, lt-ltb, and_from}
use Rattle.std.proofs.lemmas.Bool.Decides.{nat_tests}
use Rattle.std.specs.Char.{digit_value}
use Rattle.std.specs.Fmt.{digit_glyph}
use Rattle.std.specs.List.{flat_map}
use Rattle.std.specs.Prelude.{◌==◌, ◌&&◌}
use Rattle.svc_value.specs.declared.inside.Form.{Form}
use Rattle.svc_value.specs.declared.inside.Form.TheVariants.{Printed}
use Rattle.svc_value.specs.Printed.{is_escaped, quoted_byte, between_quotes}
use Rattle.svc_value.specs.Quoted.{is_itself, is_hexed, is_written, short_escape, hex_escape, Spells, closing, itself, short, hex, IsQuoted}
use Rattle.svc_value.proofs.Quoting.{quoted_plain}
use Rattle.svc_value.proofs.InsidePlaces.{hex_parts}

glyph_value : (d : ℕ) → d < 16 → digit_value (digit_glyph false d) ≡ d
glyph_value d h = elim (cases_lt d 10) [ inl k ↦ grind (arith, nat_tests) | inr k ↦ grind (arith, nat_tests) ]

-- how a byte is printed
pub data Shown (b : ℕ) : Type 0 where
  as_itself : is_itself Printed b ≡ true → quoted_byte b ≡ b ∷ [] → Shown b
  as_short : (e : ℕ) → short_escape e ≡ Some b → quoted_byte b ≡ 92 ∷ e ∷ [] → Shown b
  as_hex : (h l : ℕ) → hex_escape Printed h l ≡ Some b → quoted_byte b ≡ 92 ∷ 120 ∷ h ∷ l ∷ [] → Shown b

hex_made : (form : Form) (h l d : ℕ) → digit_value h < 8 → digit_value l < 16 → digit_value h * 16 + digit_value l ≡ d → is_written form d h l ≡ true → hex_escape form h l ≡ Some d
hex_made form h l d p q sum w =
    by (ltb (digit_value h) 8) (ltb (digit_value l) 16) (is_written form (digit_value h * 16 + digit_value l) h l) (lt-ltb (digit_value h) 8 p) (lt-ltb (digit_value l) 16 q) (ap (λ n. is_written form n h l) sum ∙ w)
  where
    by : (b c v : Bool) → b ≡ true → c ≡ true → v ≡ true → cond (b && c && v) (Some (digit_value h * 16 + digit_value l)) None ≡ Some d
    by true true true _ _ _ = ap (λ n. Some n) sum
    by true true false _ _ e = absurd (cc)
    by true false v _ e _ = absurd (cc)
    by false c v e _ _ = absurd (cc)

hexed : (b : ℕ) → is_hexed b ≡ true → b < 128 → hex_escape Printed (digit_glyph false (b / 16)) (digit_glyph false (b % 16)) ≡ Some b
hexed b e h =
    let p : digit_value (digit_glyph false (b / 16)) ≡ b / 16 = glyph_value (b / 16) (omega arith) in
    let q : digit_value (digit_glyph false (b % 16)) ≡ b % 16 = glyph_value (b % 16) (omega arith) in
    hex_made Printed (digit_glyph false (b / 16)) (digit_glyph false (b % 16)) b (omega arith) (omega arith) (omega arith)
    (and_from _ _ (and_from _ _ e (eq-eqb _ _ refl)) (eq-eqb _ _ refl))

pub shown : (b : ℕ) → Shown b
shown b = by (cases_eq b 34) (cases_eq b 92) (cases_eq b 10) (cases_eq b 9) (cases_Bool (is_escaped b))
  where
    by : (b ≡ 34) ⊎ (b ≢ 34) → (b ≡ 92) ⊎ (b ≢ 92) → (b ≡ 10) ⊎ (b ≢ 10) → (b ≡ 9) ⊎ (b ≢ 9) → (is_escaped b ≡ true) ⊎ (is_escaped b ≡ false) → Shown b
    by (inl e) _ _ _ _ = as_short 34 (ap (λ z. Some z) (sym e)) (ap quoted_byte e)
    by (inr n) (inl e) _ _ _ = as_short 92 (ap (λ z. Some z) (sym e)) (ap quoted_byte e)
    by (inr n) (inr m) (inl e) _ _ = as_short 110 (ap (λ z. Some z) (sym e)) (ap quoted_byte e)
    by (inr n) (inr m) (inr k) (inl e) _ = as_short 116 (ap (λ z. Some z) (sym e)) (ap quoted_byte e)
    by (inr n) (inr m) (inr k) (inr j) (inl e) = as_hex (digit_glyph false (b / 16)) (digit_glyph false (b % 16)) (hexed b (grind (arith, nat_tests)) (grind (arith, nat_tests))) (grind (arith, nat_tests))
    by (inr n) (inr m) (inr k) (inr j) (inr e) = as_itself (ap not e) (quoted_plain b e)

pub printed_spells : (t rest : List ℕ) → Spells Printed (flat_map quoted_byte t ++ 34 ∷ rest) t rest
printed_spells [] rest = closing
printed_spells (b ∷ t) rest = by (shown b) (printed_spells t rest)
  where
    more : List ℕ
    more = flat_map quoted_byte t ++ 34 ∷ rest

    moved : (p : List ℕ) → quoted_byte b ≡ p → Spells Printed (p ++ more) (b ∷ t) rest → Spells Printed ((quoted_byte b ++ flat_map quoted_byte t) ++ 34 ∷ rest) (b ∷ t) rest
    moved p e s = subst (λ z. Spells Printed z (b ∷ t) rest) (ap (λ z. z ++ more) (sym e) ∙ sym (append_assoc (quoted_byte b) (flat_map quoted_byte t) (34 ∷ rest))) s

    by : Shown b → Spells Printed more t rest → Spells Printed ((quoted_byte b ++ flat_map quoted_byte t) ++ 34 ∷ rest) (b ∷ t) rest
    by (as_itself i e) s = moved (b ∷ []) e (itself i s)
    by (as_short c k e) s = moved (92 ∷ c ∷ []) e (short k s)
    by (as_hex h l k e) s = moved (92 ∷ 120 ∷ h ∷ l ∷ []) e (hex k s)

-- and nothing else
short_shown : (e d : ℕ) → short_escape e ≡ Some d → quoted_byte d ≡ 92 ∷ e ∷ []
short_shown e d k = by (e == 34) (e == 92) (e == 110) (e == 116) (eqb-true e 34) (eqb-true e 92) (eqb-true e 110) (eqb-true e 116) k
  where
    by : (a b c f : Bool) → (a ≡ true → e ≡ 34) → (b ≡ true → e ≡ 92) → (c ≡ true → e ≡ 110) → (f ≡ true → e ≡ 116)
        → cond a (Some 34) (cond b (Some 92) (cond c (Some 10) (cond f (Some 9) None))) ≡ Some d → quoted_byte d ≡ 92 ∷ e ∷ []
    by true b c f p q r s k = let is : 34 ≡ d = cc in ap quoted_byte (sym is) ∙ ap (λ z. 92 ∷ z ∷ []) (sym (p refl))
    by false true c f p q r s k = let is : 92 ≡ d = cc in ap quoted_byte (sym is) ∙ ap (λ z. 92 ∷ z ∷ []) (sym (q refl))
    by false false true f p q r s k = let is : 10 ≡ d = cc in ap quoted_byte (sym is) ∙ ap (λ z. 92 ∷ z ∷ []) (sym (r refl))
    by false false false true p q r s k = let is : 9 ≡ d = cc in ap quoted_byte (sym is) ∙ ap (λ z. 92 ∷ z ∷ []) (sym (s refl))
    by false false false false p q r s k = absurd (cc)

hexed_shown : (b : ℕ) → is_hexed b ≡ true → quoted_byte b ≡ 92 ∷ 120 ∷ digit_glyph false (b / 16) ∷ digit_glyph false (b % 16) ∷ []
hexed_shown b e = grind (arith, nat_tests)

hex_shown : (h l d : ℕ) → hex_escape Printed h l ≡ Some d → quoted_byte d ≡ 92 ∷ 120 ∷ h ∷ l ∷ []
hex_shown h l d k =
    let w = (hex_parts Printed h l d k).3 in
    let a = and_parts (is_hexed d && digit_glyph false (d / 16) == h) (digit_glyph false (d % 16) == l) w in
    let b = and_parts (is_hexed d) (digit_glyph false (d / 16) == h) a.0 in
    hexed_shown d b.0 ∙ ap (λ z. 92 ∷ 120 ∷ z ∷ digit_glyph false (d % 16) ∷ []) (eqb-true (digit_glyph false (d / 16)) h b.1) ∙ ap (λ z. 92 ∷ 120 ∷ h ∷ z ∷ []) (eqb-true (digit_glyph false (d % 16)) l a.1)

escaped_off : (b : ℕ) → is_itself Printed b ≡ true → is_escaped b ≡ false
escaped_off b e = by (is_escaped b) e
  where
    by : (t : Bool) → not t ≡ true → t ≡ false
    by true e = sym e
    by false e = refl

pub spells_printed : (xs t rest : List ℕ) → Spells Printed xs t rest → xs ≡ flat_map quoted_byte t ++ 34 ∷ rest
spells_printed _ _ rest closing = refl
spells_printed _ _ rest (itself {byte = b} {bytes = bs} {text = t} k s) =
    ap (λ z. b ∷ z) (spells_printed bs t rest s) ∙ ap (λ z. (z ++ flat_map quoted_byte t) ++ 34 ∷ rest) (sym (quoted_plain b (escaped_off b k)))
spells_printed _ _ rest (short {byte = e} {means = d} {bytes = bs} {text = t} k s) =
    ap (λ z. 92 ∷ e ∷ z) (spells_printed bs t rest s) ∙ ap (λ z. (z ++ flat_map quoted_byte t) ++ 34 ∷ rest) (sym (short_shown e d k))
spells_printed _ _ rest (hex {high = h} {low = l} {means = d} {bytes = bs} {text = t} k s) =
    ap (λ z. 92 ∷ 120 ∷ h ∷ l ∷ z) (spells_printed bs t rest s) ∙ ap (λ z. (z ++ flat_map quoted_byte t) ++ 34 ∷ rest) (sym (hex_shown h l d k))

-- a printed text is a quoted text in printed form, and so the other way
pub quoted_printed : (xs t : List ℕ) → IsQuoted Printed xs t [] → xs ≡ between_quotes t
quoted_printed xs t q = q.opening ∙ ap (λ z. 34 ∷ z) (spells_printed q.inside t [] q.spelled)

pub printed_quoted : (xs t : List ℕ) → length t ≤ 256 → IsUtf8 t → xs ≡ between_quotes t → IsQuoted Printed xs t []
printed_quoted xs t most u e = record { inside = flat_map quoted_byte t ++ 34 ∷ []; opening = e; spelled = printed_spells t []; most = most; utf8 = u }
