-- How far bytes begin a quoted text.
use Rattle.std.proofs.Common.{◌≡◌, ◌≢◌, refl, sym, ap, subst, ◌∙◌, ℕ, ◌+◌, ◌*◌, ◌/◌, ◌%◌, ◌<◌, ◌≤◌, ◌⊎◌, inl, inr, Bool, true, false, List, [], ◌∷◌, length, Option, Some, None, arith, cond, ltb}
use Rattle.std.proofs.lemmas.Bool.{cases_lt, cases_eq, ltb-true, ltb-false, and_parts, eqb-true, eqb-false}
use Rattle.std.proofs.lemmas.Bool.Decides.{nat_tests}
use Rattle.std.proofs.lemmas.Str.{len_utf8_bounds, len_utf8_ascii, length-encode}
use Rattle.std.proofs.str.Laws.{Shape, of1, of2, of3, of4, shape, Scalar}
use lib.Utf8.{scalar_cases}
use Rattle.std.specs.Fmt.{digit_glyph}
use Rattle.std.specs.Char.{IsScalar, len_utf8, encode_utf8, digit_value}
use Rattle.std.specs.Prelude.{◌==◌, ◌&&◌}
use Rattle.svc_value.specs.declared.inside.Form.{Form}
use Rattle.svc_value.specs.declared.inside.Form.TheVariants.{Any, Printed}
use Rattle.svc_value.specs.declared.inside.Inside.{Inside}
use Rattle.svc_value.specs.declared.inside.Inside.TheVariants.{Open, Plain, Escape, Hex, Low}
use Rattle.svc_value.specs.declared.inside.Step.{Step}
use Rattle.svc_value.specs.declared.inside.Step.TheVariants.{Close, Stop, Enter, Give}
use Rattle.svc_value.specs.Quoted.{is_itself, is_hexed, is_written, short_escape, hex_escape, Spells, closing, itself, short, hex}
use Rattle.svc_value.specs.Reading.{next_step, give, may_lead}
use Rattle.svc_value.specs.Utf8Front.{char_len}

-- ---- what spells a text, taken apart

pub data Inverted (form : Form) (b : ℕ) (xs text rest : List ℕ) : Type 0 where
  at_close : b ≡ 34 → text ≡ [] → xs ≡ rest → Inverted form b xs text rest
  at_self : (more : List ℕ) → is_itself form b ≡ true → text ≡ b ∷ more → Spells form xs more rest → Inverted form b xs text rest
  at_short : (e d : ℕ) (ys more : List ℕ) → b ≡ 92 → xs ≡ e ∷ ys → short_escape e ≡ Some d → text ≡ d ∷ more → Spells form ys more rest → Inverted form b xs text rest
  at_hex : (h l d : ℕ) (ys more : List ℕ) → b ≡ 92 → xs ≡ 120 ∷ h ∷ l ∷ ys → hex_escape form h l ≡ Some d → text ≡ d ∷ more → Spells form ys more rest → Inverted form b xs text rest

pub inverted : (form : Form) (b : ℕ) (xs text rest : List ℕ) → Spells form (b ∷ xs) text rest → Inverted form b xs text rest
inverted form b xs text rest closing = at_close refl refl refl
inverted form b xs text rest (itself {text = more} e s) = at_self more e refl s
inverted form b xs text rest (short {byte = e} {means = d} {bytes = ys} {text = more} k s) = at_short e d ys more refl refl k refl s
inverted form b xs text rest (hex {high = h} {low = l} {means = d} {bytes = ys} {text = more} k s) = at_hex h l d ys more refl refl k refl s

pub not_empty : (form : Form) (text rest : List ℕ) → Spells form [] text rest → ⊥
not_empty form text rest s = by [] text rest refl s
  where
    by : (xs text rest : List ℕ) → xs ≡ [] → Spells form xs text rest → ⊥
    by _ _ _ e closing = cc
    by _ _ _ e (itself k s) = cc
    by _ _ _ e (short k s) = cc
    by _ _ _ e (hex k s) = cc

-- ---- what a character's step says

-- a step, by what the character is
pub data Moved (form : Form) (room c : ℕ) : Inside → Step → Type 0 where
  opens : c ≡ 34 → Moved form room c Open (Enter Plain)
  not_open : c ≢ 34 → Moved form room c Open Stop
  closes : c ≡ 34 → Moved form room c Plain Close
  full : c ≢ 34 → room < len_utf8 c → Moved form room c Plain Stop
  escapes : c ≡ 92 → 1 ≤ room → Moved form room c Plain (Enter Escape)
  stays : c ≢ 34 → c ≢ 92 → len_utf8 c ≤ room → is_itself form c ≡ true → Moved form room c Plain (Give c)
  refused : c ≢ 34 → c ≢ 92 → is_itself form c ≡ false → Moved form room c Plain Stop
  to_hex : c ≡ 120 → Moved form room c Escape (Enter Hex)
  shorts : {d : ℕ} → c ≢ 120 → short_escape c ≡ Some d → Moved form room c Escape (Give d)
  no_short : c ≢ 120 → short_escape c ≡ None → Moved form room c Escape Stop
  leads : may_lead form c ≡ true → Moved form room c Hex (Enter (Low c))
  no_lead : may_lead form c ≡ false → Moved form room c Hex Stop
  hexes : {h d : ℕ} → hex_escape form h c ≡ Some d → Moved form room c (Low h) (Give d)
  no_hex : {h : ℕ} → hex_escape form h c ≡ None → Moved form room c (Low h) Stop

pub moved : (form : Form) (room c : ℕ) (inside : Inside) → Moved form room c inside (next_step form inside room c)
moved form room c Open = by (c == 34) refl
  where
    by : (b : Bool) → (c == 34) ≡ b → Moved form room c Open (cond b (Enter Plain) Stop)
    by true e = opens (eqb-true c 34 e)
    by false e = not_open (eqb-false c 34 e)
moved form room c Plain = by (c == 34) (ltb room (len_utf8 c)) (c == 92) (is_itself form c) refl refl refl refl
  where
    by : (b l s i : Bool) → (c == 34) ≡ b → ltb room (len_utf8 c) ≡ l → (c == 92) ≡ s → is_itself form c ≡ i → Moved form room c Plain (cond b Close (cond l Stop (cond s (Enter Escape) (cond i (Give c) Stop))))
    by true l s i eb el es ei = closes (eqb-true c 34 eb)
    by false true s i eb el es ei = full (eqb-false c 34 eb) (ltb-true room (len_utf8 c) el)
    by false false true i eb el es ei = escapes (eqb-true c 92 es) (omega (arith, ltb-false room (len_utf8 c) el, (len_utf8_bounds c).0))
    by false false false true eb el es ei = stays (eqb-false c 34 eb) (eqb-false c 92 es) (ltb-false room (len_utf8 c) el) ei
    by false false false false eb el es ei = refused (eqb-false c 34 eb) (eqb-false c 92 es) ei
moved form room c Escape = by (c == 120) (short_escape c) refl refl
  where
    by : (b : Bool) (o : Option ℕ) → (c == 120) ≡ b → short_escape c ≡ o → Moved form room c Escape (cond b (Enter Hex) (give o))
    by true o e k = to_hex (eqb-true c 120 e)
    by false (Some d) e k = shorts (eqb-false c 120 e) k
    by false None e k = no_short (eqb-false c 120 e) k
moved form room c Hex = by (may_lead form c) refl
  where
    by : (b : Bool) → may_lead form c ≡ b → Moved form room c Hex (cond b (Enter (Low c)) Stop)
    by true e = leads e
    by false e = no_lead e
moved form room c (Low h) = by (hex_escape form h c) refl
  where
    by : (o : Option ℕ) → hex_escape form h c ≡ o → Moved form room c (Low h) (give o)
    by (Some d) e = hexes e
    by None e = no_hex e

-- ---- facts on single bytes

pub escape_is_none : (form : Form) → is_itself form 92 ≡ false
escape_is_none Any = refl
escape_is_none Printed = refl

pub high_is_itself : (form : Form) (c : ℕ) → 128 ≤ c → is_itself form c ≡ true
high_is_itself Any c h = grind (arith, nat_tests)
high_is_itself Printed c h = grind (arith, nat_tests)

pub high_no_short : (c d : ℕ) → 128 ≤ c → short_escape c ≡ Some d → ⊥
high_no_short c d h e = grind (arith, nat_tests)

pub hex_parts : (form : Form) (h l d : ℕ) → hex_escape form h l ≡ Some d → (digit_value h < 8) × (digit_value l < 16) × (digit_value h * 16 + digit_value l ≡ d) × (is_written form d h l ≡ true)
hex_parts form h l d e = by (ltb (digit_value h) 8) (ltb (digit_value l) 16) (is_written form (digit_value h * 16 + digit_value l) h l) refl refl refl e
  where
    by : (b c w : Bool) → ltb (digit_value h) 8 ≡ b → ltb (digit_value l) 16 ≡ c → is_written form (digit_value h * 16 + digit_value l) h l ≡ w
        → cond (b && c && w) (Some (digit_value h * 16 + digit_value l)) None ≡ Some d → (digit_value h < 8) × (digit_value l < 16) × (digit_value h * 16 + digit_value l ≡ d) × (is_written form d h l ≡ true)
    by true true true p q r k =
        let is : digit_value h * 16 + digit_value l ≡ d = cc in
        (ltb-true (digit_value h) 8 p, ltb-true (digit_value l) 16 q, is, subst (λ n. is_written form n h l ≡ true) is r)
    by true true false p q r k = absurd (cc)
    by true false w p q r k = absurd (cc)
    by false c w p q r k = absurd (cc)

pub digit_low : (c : ℕ) → digit_value c < 16 → c < 128
digit_low c h = grind (arith, nat_tests)

-- what printing writes in two digits begins with 0, 1 or 7
hexed_cases : (d : ℕ) → is_hexed d ≡ true → (d < 16) ⊎ (((16 ≤ d) × (d < 32)) ⊎ (d ≡ 127))
hexed_cases d e = elim (cases_lt d 16) [ inl k ↦ inl k | inr k ↦ elim (cases_lt d 32) [ inl m ↦ inr (inl (k, m)) | inr m ↦ inr (inr (grind (arith, nat_tests))) ] ]

led : (h : ℕ) → (h ≡ 48) ⊎ ((h ≡ 49) ⊎ (h ≡ 55)) → may_lead Printed h ≡ true
led h k = grind (arith, nat_tests)

pub hex_leads : (form : Form) (h l d : ℕ) → hex_escape form h l ≡ Some d → may_lead form h ≡ true
hex_leads Any h l d e = let p = hex_parts Any h l d e in grind (arith, nat_tests)
hex_leads Printed h l d e =
    let w = (hex_parts Printed h l d e).3 in
    let a = and_parts (is_hexed d && digit_glyph false (d / 16) == h) (digit_glyph false (d % 16) == l) w in
    let b = and_parts (is_hexed d) (digit_glyph false (d / 16) == h) a.0 in
    let first : digit_glyph false (d / 16) ≡ h = eqb-true (digit_glyph false (d / 16)) h b.1 in
    elim (hexed_cases d b.0) [
      | inl k ↦ (let q : d / 16 ≡ 0 = omega arith in let is : 48 ≡ h = sym (ap (digit_glyph false) q) ∙ first in led h (inl (sym is)))
      | inr m ↦ elim m [
        | inl k ↦ (let q : d / 16 ≡ 1 = omega arith in let is : 49 ≡ h = sym (ap (digit_glyph false) q) ∙ first in led h (inr (inl (sym is))))
        | inr k ↦ (let q : d / 16 ≡ 7 = omega arith in let is : 55 ≡ h = sym (ap (digit_glyph false) q) ∙ first in led h (inr (inr (sym is))))
      ]
    ]

-- some digit may stand second, and what then is meant
pub record Followed (form : Form) (h : ℕ) : Type 0 where
  pub low : ℕ
  pub means : ℕ
  pub is : hex_escape form h low ≡ Some means

pub followed : (form : Form) (h : ℕ) → may_lead form h ≡ true → Followed form h
followed Any h e = record { low = 48; means = digit_value h * 16 + 0; is = grind (arith, nat_tests) }
followed Printed h e = elim (cases_eq h 48) [
  | inl k ↦ record { low = 48; means = 0; is = ap (λ c. hex_escape Printed c 48) k }
  | inr k ↦ elim (cases_eq h 49) [
    | inl m ↦ record { low = 48; means = 16; is = ap (λ c. hex_escape Printed c 48) m }
    | inr m ↦ (let n : h ≡ 55 = grind (arith, nat_tests) in record { low = 102; means = 127; is = ap (λ c. hex_escape Printed c 102) n })
  ]
]

pub low_of_lead : (form : Form) (h : ℕ) → may_lead form h ≡ true → h < 128
low_of_lead Any h e = digit_low h (grind (arith, nat_tests))
low_of_lead Printed h e = grind (arith, nat_tests)

-- the bytes of a character are its own where it is one byte, and else stand for themselves
pub record Bytes (c : ℕ) : Type 0 where
  pub first : ℕ
  pub more : List ℕ
  pub are : encode_utf8 c ≡ first ∷ more
  pub alone : c < 128 → (first ≡ c) × (more ≡ [])
  pub several : 128 ≤ c → (128 ≤ first) × (194 ≤ first) × (char_len first ≡ len_utf8 c)

bytes_of : (c : ℕ) → Scalar c → Shape c → Bytes c
bytes_of c k (of1 l e) = record { first = c; more = []; are = e; alone = λ _. (refl, refl); several = λ h. absurd (omega arith) }
bytes_of c k (of2 a b l u f s e) =
    let n : len_utf8 c ≡ 2 = sym (length-encode c) ∙ ap length e in
    record { first = a; more = b ∷ []; are = e; alone = λ h. absurd (omega (arith, n, len_utf8_ascii c h)); several = λ h. (omega arith, omega arith, grind (arith, nat_tests)) }
bytes_of c k (of3 a b d l u f g s e) =
    let n : len_utf8 c ≡ 3 = sym (length-encode c) ∙ ap length e in
    record { first = a; more = b ∷ d ∷ []; are = e; alone = λ h. absurd (omega (arith, n, len_utf8_ascii c h)); several = λ h. (omega arith, omega arith, grind (arith, nat_tests)) }
bytes_of c k (of4 a b d x l u f g m s e) =
    let n : len_utf8 c ≡ 4 = sym (length-encode c) ∙ ap length e in
    record { first = a; more = b ∷ d ∷ x ∷ []; are = e; alone = λ h. absurd (omega (arith, n, len_utf8_ascii c h)); several = λ h. (omega arith, omega arith, grind (arith, nat_tests)) }

pub bytes : (c : ℕ) → IsScalar c → Bytes c
bytes c h = let k = scalar_cases c h in bytes_of c k (shape c k)
