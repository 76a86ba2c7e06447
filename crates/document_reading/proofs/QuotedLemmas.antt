-- What a quoted text of UTF-8 stands for is spelled in UTF-8.
use Rattle.std.proofs.Common.{◌≡◌, ℕ, ◌<◌, ◌≤◌, ◌⊎◌, inl, inr, true, List, [], ◌∷◌, ◌++◌, Some, refl, sym, ap, subst, ◌∙◌, arith, IsUtf8}
use Rattle.std.proofs.lemmas.Bool.{cases_lt, and_parts}
use Rattle.std.proofs.lemmas.Str.{IsUtf8-append, IsUtf8-encode, encode_ascii}
use Rattle.std.proofs.str.Laws.{Shape, of1, of2, of3, of4, shape}
use lib.Utf8.{scalar_cases, scalar as is_scalar}
use Rattle.std.specs.Char.{encode_utf8}
use Rattle.std.specs.Str.{all_scalars, encode_utf8_all}
use Rattle.svc_value.specs.Quoted.{Spells, IsQuoted, any_form, short_escape}
use Rattle.svc_value.proofs.InsidePlaces.{Inverted, at_close, at_self, at_short, at_hex, inverted, not_empty, high_no_short, hex_parts, digit_low}
use Rattle.svc_value.proofs.InsideSteps.{given_short, given_hex}
use Rattle.svc_value.proofs.InsideStuck.{ascii_utf8}

-- ---- bytes past 127

abbrev AreHigh : List ℕ → Type 0
AreHigh [] = Unit {0}
AreHigh (b ∷ bytes) = (128 ≤ b) × AreHigh bytes

high_by : (c : ℕ) → 128 ≤ c → Shape c → AreHigh (encode_utf8 c)
high_by c h (of1 l e) = absurd (omega arith)
high_by c h (of2 a b l u f s e) = subst AreHigh (sym e) (omega arith, (f.0, tt))
high_by c h (of3 a b d l u f g s e) = subst AreHigh (sym e) (omega arith, (f.0, (g.0, tt)))
high_by c h (of4 a b d w l u f g m s e) = subst AreHigh (sym e) (omega arith, (f.0, (g.0, (m.0, tt))))

heads : (a b : ℕ) (front rest : List ℕ) → a ∷ front ≡ b ∷ rest → (a ≡ b) × (front ≡ rest)
heads a b front rest e = (cc, cc)

-- bytes past 127 stand for themselves
record Behind (front xs text : List ℕ) : Type 0 where
  more : List ℕ
  whole : xs ≡ front ++ more
  spelled : Spells any_form more text []

high_front : (front : List ℕ) → AreHigh front → (xs text : List ℕ) → Spells any_form xs (front ++ text) [] → Behind front xs text
high_front [] h xs text s = record { more = xs; whole = refl; spelled = s }
high_front (b ∷ front) h [] text s = absurd (not_empty any_form (b ∷ front ++ text) [] s)
high_front (b ∷ front) h (x ∷ xs) text s = by (high_front front h.1 xs text) (inverted any_form x xs (b ∷ front ++ text) [] s)
  where
    by : (Spells any_form xs (front ++ text) [] → Behind front xs text) → Inverted any_form x xs (b ∷ front ++ text) [] → Behind (b ∷ front) (x ∷ xs) text
    by next (at_close e k m) = absurd (cc)
    by next (at_self more e k v) =
        let same = heads b x (front ++ text) more k in
        let rest = next (subst (λ (l : List ℕ). Spells any_form xs l []) (sym same.1) v) in
        record { more = rest.more; whole = ap (λ (y : ℕ). y ∷ xs) (sym same.0) ∙ ap (λ (l : List ℕ). b ∷ l) rest.whole; spelled = rest.spelled }
    by next (at_short e d ys more is k q m v) =
        let same = heads b d (front ++ text) more m in
        absurd (omega (arith, h.0, same.0, given_short e d q))
    by next (at_hex i l d ys more is k q m v) =
        let same = heads b d (front ++ text) more m in
        absurd (omega (arith, h.0, same.0, given_hex any_form i l d q))

-- ---- characters

low_front : (c : ℕ) → c < 128 → (text : List ℕ) → ((ys : List ℕ) → Spells any_form ys text [] → IsUtf8 ys) → (xs : List ℕ) → Spells any_form xs (c ∷ text) [] → IsUtf8 xs
low_front c low text rest [] s = absurd (not_empty any_form (c ∷ text) [] s)
low_front c low text rest (x ∷ xs) s = by (inverted any_form x xs (c ∷ text) [] s)
  where
    short_low : (e d : ℕ) → short_escape e ≡ Some d → e < 128
    short_low e d q = elim (cases_lt e 128) [ inl l ↦ l | inr g ↦ absurd (high_no_short e d g q) ]

    by : Inverted any_form x xs (c ∷ text) [] → IsUtf8 (x ∷ xs)
    by (at_close e k m) = absurd (cc)
    by (at_self more e k v) =
        let same = heads c x text more k in
        IsUtf8-append (x ∷ []) xs (ascii_utf8 x (omega (arith, low, same.0))) (rest xs (subst (λ (l : List ℕ). Spells any_form xs l []) (sym same.1) v))
    by (at_short e d ys more is k q m v) =
        let same = heads c d text more m in
        subst IsUtf8 (ap (λ (l : List ℕ). x ∷ l) (sym k))
        (IsUtf8-append (x ∷ []) (e ∷ ys) (ascii_utf8 x (omega (arith, is)))
        (IsUtf8-append (e ∷ []) ys (ascii_utf8 e (short_low e d q)) (rest ys (subst (λ (l : List ℕ). Spells any_form ys l []) (sym same.1) v))))
    by (at_hex i l d ys more is k q m v) =
        let same = heads c d text more m in
        let p = hex_parts any_form i l d q in
        subst IsUtf8 (ap (λ (l : List ℕ). x ∷ l) (sym k))
        (IsUtf8-append (x ∷ []) (120 ∷ i ∷ l ∷ ys) (ascii_utf8 x (omega (arith, is)))
        (IsUtf8-append (120 ∷ []) (i ∷ l ∷ ys) (ascii_utf8 120 (omega arith))
        (IsUtf8-append (i ∷ []) (l ∷ ys) (ascii_utf8 i (digit_low i (omega (arith, p.0))))
        (IsUtf8-append (l ∷ []) ys (ascii_utf8 l (digit_low l p.1)) (rest ys (subst (λ (l : List ℕ). Spells any_form ys l []) (sym same.1) v))))))

spelled : (cs : List ℕ) → all_scalars cs ≡ true → (xs : List ℕ) → Spells any_form xs (encode_utf8_all cs) [] → IsUtf8 xs
spelled [] h [] s = absurd (not_empty any_form [] [] s)
spelled [] h (x ∷ xs) s = by (inverted any_form x xs [] [] s)
  where
    by : Inverted any_form x xs [] [] → IsUtf8 (x ∷ xs)
    by (at_close e k m) = subst IsUtf8 (ap (λ (l : List ℕ). x ∷ l) (sym m)) (ascii_utf8 x (omega (arith, e)))
    by (at_self more e k v) = absurd (cc)
    by (at_short e d ys more is k q m v) = absurd (cc)
    by (at_hex i l d ys more is k q m v) = absurd (cc)
spelled (c ∷ cs) h xs s = by (spelled cs (and_parts (is_scalar c) (all_scalars cs) h).1) (cases_lt c 128)
  where
    parts : (is_scalar c ≡ true) × (all_scalars cs ≡ true)
    parts = and_parts (is_scalar c) (all_scalars cs) h

    by : ((ys : List ℕ) → Spells any_form ys (encode_utf8_all cs) [] → IsUtf8 ys) → (c < 128) ⊎ (128 ≤ c) → IsUtf8 xs
    by rest (inl l) =
        low_front c l (encode_utf8_all cs) rest xs
        (subst (λ (front : List ℕ). Spells any_form xs (front ++ encode_utf8_all cs) []) (encode_ascii c l) s)
    by rest (inr g) =
        let k = scalar_cases c parts.0 in
        let back = high_front (encode_utf8 c) (high_by c g (shape c k)) xs (encode_utf8_all cs) s in
        subst IsUtf8 (sym back.whole) (IsUtf8-append (encode_utf8 c) back.more (IsUtf8-encode c parts.0) (rest back.more back.spelled))

-- the bytes of a quoted text are UTF-8
pub quoted_utf8 : (raw text : List ℕ) → IsQuoted any_form raw text [] → IsUtf8 raw
quoted_utf8 raw text q =
    let u = q.utf8 in
    let inside : IsUtf8 q.inside = spelled u.0 u.1.0 q.inside (subst (λ (t : List ℕ). Spells any_form q.inside t []) (sym u.1.1) q.spelled) in
    subst IsUtf8 (sym q.opening) (IsUtf8-append (34 ∷ []) q.inside (ascii_utf8 34 (omega arith)) inside)
