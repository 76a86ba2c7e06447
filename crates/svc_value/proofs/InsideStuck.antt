-- Where a quoted text is refused.
use Rattle.std.proofs.Common.{◌≡◌, ◌≢◌, refl, sym, ap, subst, ◌∙◌, ℕ, ◌+◌, ◌-◌, ◌<◌, ◌≤◌, ◌⊎◌, inl, inr, true, false, List, [], ◌∷◌, ◌++◌, length, Some, None, arith, append-nil, length-append, IsUtf8}
use Rattle.std.proofs.lemmas.Bool.{cases_lt, both_ways}
use Rattle.std.proofs.lemmas.Str.{len_utf8_ascii, encode_ascii, IsUtf8-append, IsUtf8-encode}
use Rattle.std.proofs.Math.Seq.{take-append_seam, drop-append_seam}
use Rattle.std.proofs.iter.FirstChar.{after_text}
use Rattle.std.specs.Char.{len_utf8}
use Rattle.svc_value.specs.declared.inside.Form.{Form}
use Rattle.svc_value.specs.declared.inside.Form.TheVariants.{Any, Printed}
use Rattle.svc_value.specs.declared.inside.Inside.{Inside}
use Rattle.svc_value.specs.declared.inside.Inside.TheVariants.{Open, Plain, Escape, Hex, Low}
use Rattle.svc_value.specs.Quoted.{is_itself, short_escape, hex_escape, Spells, closing, short, hex}
use Rattle.svc_value.specs.Reading.{may_lead, HasRoom}
use Rattle.svc_value.proofs.Utf8Places.{goes, long_enough, scalar_of}
use Rattle.svc_value.proofs.InsideSteps.{given_hex}
use Rattle.svc_value.proofs.InsidePlaces.{Inverted, at_close, at_self, at_short, at_hex, inverted, escape_is_none, high_is_itself, high_no_short, hex_parts, digit_low, hex_leads, followed, low_of_lead, Bytes}

-- ---- what may follow at a place

-- the bytes go on to a text from this place
abbrev pub SpelledFrom : Form → Inside → List ℕ → List ℕ → List ℕ → Type 0
SpelledFrom form Open xs text rest = (ys : List ℕ) × (xs ≡ 34 ∷ ys) × Spells form ys text rest
SpelledFrom form Plain xs text rest = Spells form xs text rest
SpelledFrom form Escape xs text rest = Spells form (92 ∷ xs) text rest
SpelledFrom form Hex xs text rest = Spells form (92 ∷ 120 ∷ xs) text rest
SpelledFrom form (Low h) xs text rest = Spells form (92 ∷ 120 ∷ h ∷ xs) text rest

-- the bytes end a quoted text from this place, whose meaning so far is m
pub record Member (form : Form) (m : List ℕ) (s : Inside) (xs : List ℕ) : Type 0 where
  pub text : List ℕ
  pub spelled : SpelledFrom form s xs text []
  pub most : length (m ++ text) ≤ 256
  pub utf8 : IsUtf8 (m ++ text)

-- a first digit may stand there
abbrev pub IsLead : Form → Inside → Type 0
IsLead form Open = Unit {0}
IsLead form Plain = Unit {0}
IsLead form Escape = Unit {0}
IsLead form Hex = Unit {0}
IsLead form (Low h) = may_lead form h ≡ true

-- what is known of a place and of the meaning so far
pub record Reached (form : Form) (m : List ℕ) (s : Inside) : Type 0 where
  pub utf8 : IsUtf8 m
  pub most : length m ≤ 256
  pub room : HasRoom s (256 - length m)
  pub lead : IsLead form s

pub ascii_utf8 : (d : ℕ) → d < 128 → IsUtf8 (d ∷ [])
ascii_utf8 d h = subst IsUtf8 (encode_ascii d h) (IsUtf8-encode d (scalar_of d (inl (omega arith))))

one_more : (form : Form) (m xs : List ℕ) (s : Inside) (d : ℕ) → IsUtf8 m → 1 ≤ 256 - length m → d < 128 → SpelledFrom form s xs (d ∷ []) [] → Member form m s xs
one_more form m xs s d u room h k = record { text = d ∷ []; spelled = k; most = omega (arith, length-append m (d ∷ [])); utf8 = IsUtf8-append m _ u (ascii_utf8 d h) }

-- some bytes do
pub some_member : (form : Form) (m : List ℕ) (s : Inside) → Reached form m s → (w : List ℕ) × Member form m s w
some_member form m Open r = (34 ∷ 34 ∷ [], record { text = []; spelled = (34 ∷ [], refl, closing); most = omega (arith, r.most, length-append m ([])); utf8 = subst IsUtf8 (sym (append-nil m)) r.utf8 })
some_member form m Plain r = (34 ∷ [], record { text = []; spelled = closing; most = omega (arith, r.most, length-append m ([])); utf8 = subst IsUtf8 (sym (append-nil m)) r.utf8 })
some_member form m Escape r = (110 ∷ 34 ∷ [], one_more form m _ Escape 10 r.utf8 r.room (omega arith) (short refl closing))
some_member Any m Hex r = (48 ∷ 48 ∷ 34 ∷ [], one_more Any m _ Hex 0 r.utf8 r.room (omega arith) (hex refl closing))
some_member Printed m Hex r = (48 ∷ 48 ∷ 34 ∷ [], one_more Printed m _ Hex 0 r.utf8 r.room (omega arith) (hex refl closing))
some_member form m (Low h) r = let f = followed form h r.lead in (f.low ∷ 34 ∷ [], one_more form m _ (Low h) f.means r.utf8 r.room (given_hex form h f.low f.means f.is) (hex f.is closing))

-- ---- what no character of a stop begins

-- the first byte of a character that is not 34, and so on, is not either
pub first_apart : (c k : ℕ) (b : Bytes c) → k < 128 → c ≢ k → b.first ≢ k
first_apart c k b h n e = elim (cases_lt c 128) [ inl l ↦ n (sym ((b.alone l).0) ∙ e) | inr l ↦ absurd (omega (arith, (b.several l).0)) ]

-- behind a backslash, no text is spelled by a byte that is no escape
no_escape : (form : Form) (b : ℕ) (xs text : List ℕ) → b ≢ 120 → ((d : ℕ) → short_escape b ≡ Some d → ⊥) → Spells form (92 ∷ b ∷ xs) text [] → ⊥
no_escape form b xs text n none s = by (inverted form 92 (b ∷ xs) text [] s)
  where
    by : Inverted form 92 (b ∷ xs) text [] → ⊥
    by (at_close e _ _) = absurd (omega (arith, e))
    by (at_self more e _ _) = both_ways _ (escape_is_none form) e
    by (at_short e d ys more _ is k _ _) = let same : b ≡ e = cc in none d (ap short_escape same ∙ k)
    by (at_hex h l d ys more _ is _ _ _) = n (cc)

no_digit : (form : Form) (b : ℕ) (xs text : List ℕ) → ((l d : ℕ) → hex_escape form b l ≡ Some d → ⊥) → Spells form (92 ∷ 120 ∷ b ∷ xs) text [] → ⊥
no_digit form b xs text none s = by (inverted form 92 (120 ∷ b ∷ xs) text [] s)
  where
    by : Inverted form 92 (120 ∷ b ∷ xs) text [] → ⊥
    by (at_close e _ _) = absurd (omega (arith, e))
    by (at_self more e _ _) = both_ways _ (escape_is_none form) e
    by (at_short e d ys more _ is k _ _) = let same : e ≡ 120 = cc in let no : short_escape 120 ≡ Some d = ap short_escape (sym same) ∙ k in cc
    by (at_hex h l d ys more _ is k _ _) = let same : b ≡ h = cc in none l d (ap (λ c. hex_escape form c l) same ∙ k)

no_second : (form : Form) (h b : ℕ) (xs text : List ℕ) → ((d : ℕ) → hex_escape form h b ≡ Some d → ⊥) → Spells form (92 ∷ 120 ∷ h ∷ b ∷ xs) text [] → ⊥
no_second form h b xs text none s = by (inverted form 92 (120 ∷ h ∷ b ∷ xs) text [] s)
  where
    by : Inverted form 92 (120 ∷ h ∷ b ∷ xs) text [] → ⊥
    by (at_close e _ _) = absurd (omega (arith, e))
    by (at_self more e _ _) = both_ways _ (escape_is_none form) e
    by (at_short e d ys more _ is k _ _) = let same : e ≡ 120 = cc in let no : short_escape 120 ≡ Some d = ap short_escape (sym same) ∙ k in cc
    by (at_hex g l d ys more _ is k _ _) =
        let one : h ≡ g = cc in
        let two : b ≡ l = cc in
        none d (ap (λ c. hex_escape form c b) one ∙ ap (hex_escape form g) two ∙ k)

-- the place is full
pub no_room : (form : Form) (m : List ℕ) (c : ℕ) (b : Bytes c) (xs : List ℕ) → IsUtf8 m → length m ≤ 256 → c ≢ 34 → 256 - length m < len_utf8 c → Member form m Plain (b.first ∷ xs) → ⊥
no_room form m c b xs u most n k t = by (inverted form b.first xs t.text [] t.spelled) (cases_lt c 128)
  where
    long : length (m ++ t.text) ≡ length m + length t.text
    long = length-append m t.text

    by : Inverted form b.first xs t.text [] → (c < 128) ⊎ (128 ≤ c) → ⊥
    by (at_close e _ _) w = first_apart c 34 b (omega arith) n e
    by (at_self more e is _) (inl l) = absurd (omega (arith, k, len_utf8_ascii c l, ap length is, long, t.most))
    by (at_self more e is _) (inr l) =
        let rest : IsUtf8 (b.first ∷ more) = subst IsUtf8 (drop-append_seam m t.text ∙ is) (after_text (m ++ t.text) (length m) t.utf8 (subst IsUtf8 (sym (take-append_seam m t.text)) u)) in
        let fits = long_enough b.first (length (b.first ∷ more)) more (b.several l).1 (goes b.first more rest) refl in
        absurd (omega (arith, fits, (b.several l).2, k, ap length is, long, t.most))
    by (at_short e d ys more is _ _ grown _) (inl l) = absurd (omega (arith, k, len_utf8_ascii c l, ap length grown, long, t.most))
    by (at_short e d ys more is _ _ grown _) (inr l) = absurd (omega (arith, is, (b.several l).0))
    by (at_hex h g d ys more is _ _ grown _) (inl l) = absurd (omega (arith, k, len_utf8_ascii c l, ap length grown, long, t.most))
    by (at_hex h g d ys more is _ _ grown _) (inr l) = absurd (omega (arith, is, (b.several l).0))

-- the character cannot stand there
pub no_self : (form : Form) (m : List ℕ) (c : ℕ) (b : Bytes c) (xs : List ℕ) → c ≢ 34 → c ≢ 92 → is_itself form c ≡ false → Member form m Plain (b.first ∷ xs) → ⊥
no_self form m c b xs n k i t = by (inverted form b.first xs t.text [] t.spelled) (cases_lt c 128)
  where
    by : Inverted form b.first xs t.text [] → (c < 128) ⊎ (128 ≤ c) → ⊥
    by (at_close e _ _) w = first_apart c 34 b (omega arith) n e
    by (at_self more e is _) (inl l) = both_ways _ i (ap (is_itself form) (sym (b.alone l).0) ∙ e)
    by (at_self more e is _) (inr l) = both_ways _ i (high_is_itself form c l)
    by (at_short e d ys more is _ _ grown _) w = first_apart c 92 b (omega arith) k is
    by (at_hex h g d ys more is _ _ grown _) w = first_apart c 92 b (omega arith) k is

pub no_short_first : (form : Form) (c : ℕ) (b : Bytes c) (xs text : List ℕ) → c ≢ 120 → short_escape c ≡ None → Spells form (92 ∷ b.first ∷ xs) text [] → ⊥
no_short_first form c b xs text n k = no_escape form b.first xs text (first_apart c 120 b (omega arith) n) (λ d e. by d e (cases_lt c 128))
  where
    by : (d : ℕ) → short_escape b.first ≡ Some d → (c < 128) ⊎ (128 ≤ c) → ⊥
    by d e (inl l) = let no : None ≡ Some d = sym k ∙ ap short_escape (sym (b.alone l).0) ∙ e in cc
    by d e (inr l) = high_no_short b.first d (b.several l).0 e

pub no_lead_first : (form : Form) (c : ℕ) (b : Bytes c) (xs text : List ℕ) → may_lead form c ≡ false → Spells form (92 ∷ 120 ∷ b.first ∷ xs) text [] → ⊥
no_lead_first form c b xs text k = no_digit form b.first xs text (λ l d e. by l d e (cases_lt c 128))
  where
    by : (l d : ℕ) → hex_escape form b.first l ≡ Some d → (c < 128) ⊎ (128 ≤ c) → ⊥
    by l d e (inl h) = both_ways _ k (ap (may_lead form) (sym (b.alone h).0) ∙ hex_leads form b.first l d e)
    by l d e (inr h) = absurd (omega (arith, (b.several h).0, low_of_lead form b.first (hex_leads form b.first l d e)))

pub no_hex_first : (form : Form) (h c : ℕ) (b : Bytes c) (xs text : List ℕ) → hex_escape form h c ≡ None → Spells form (92 ∷ 120 ∷ h ∷ b.first ∷ xs) text [] → ⊥
no_hex_first form h c b xs text k = no_second form h b.first xs text (λ d e. by d e (cases_lt c 128))
  where
    by : (d : ℕ) → hex_escape form h b.first ≡ Some d → (c < 128) ⊎ (128 ≤ c) → ⊥
    by d e (inl l) = let no : None ≡ Some d = sym k ∙ ap (hex_escape form h) (sym (b.alone l).0) ∙ e in cc
    by d e (inr l) = absurd (omega (arith, (b.several l).0, digit_low b.first (hex_parts form h b.first d e).1))
