-- What is read is a quoted text, and what is refused is none.
use Rattle.std.proofs.Common.{◌≡◌, ◌≢◌, refl, sym, ap, subst, ◌∙◌, ℕ, suc, ◌+◌, ◌-◌, ◌<◌, ◌≤◌, inl, inr, true, List, [], ◌∷◌, ◌++◌, length, drop, Some, Ok, Err, arith, append_assoc, append-nil, length-append, IsUtf8}
use Rattle.std.proofs.lemmas.Bool.{cases_lt, both_ways, and_parts}
use Rattle.std.proofs.lemmas.Str.{len_utf8_ascii, length-encode, encode_ascii, IsUtf8-append, IsUtf8-encode}
use Rattle.std.proofs.Math.Seq.{drop-append-add}
use Rattle.std.proofs.str.Laws.{Shape, of1, of2, of3, of4, shape}
use lib.Utf8.{scalar_cases, scalar as is_scalar}
use Rattle.std.specs.Char.{IsScalar, len_utf8, encode_utf8}
use Rattle.std.specs.Str.{all_scalars, encode_utf8_all}
use Rattle.svc_value.specs.declared.inside.Form.{Form}
use Rattle.svc_value.specs.declared.inside.Inside.{Inside}
use Rattle.svc_value.specs.declared.inside.Inside.TheVariants.{Open, Plain, Escape, Hex, Low}
use Rattle.svc_value.specs.declared.inside.Step.{Step}
use Rattle.svc_value.specs.declared.inside.Step.TheVariants.{Enter, Give}
use Rattle.svc_value.specs.Prefix.{IsRefusedAt}
use Rattle.svc_value.specs.Quoted.{is_itself, short_escape, hex_escape, Spells, closing, itself, short, hex}
use Rattle.svc_value.specs.Reading.{Read, next_step, past, goes_on, inside_at}
use Rattle.svc_value.proofs.Places.{refused_end, refused_here, refused_next, refused_after, refused_same}
use Rattle.svc_value.proofs.InsideSteps.{given_short, given_hex, room_enters, room_gives}
use Rattle.svc_value.proofs.InsidePlaces.{Inverted, at_close, at_self, at_short, at_hex, inverted, not_empty, Moved, opens, not_open, closes, full, escapes, stays, refused, to_hex, shorts, no_short, leads, no_lead, hexes, no_hex, moved, escape_is_none, high_is_itself, high_no_short, digit_low, hex_parts, low_of_lead, Bytes, bytes}
use Rattle.svc_value.proofs.Utf8Places.{scalar_of}
use Rattle.svc_value.proofs.InsideStuck.{SpelledFrom, Member, IsLead, Reached, some_member, first_apart, no_room, no_self, no_short_first, no_lead_first, no_hex_first}

-- ---- results taken apart

past_err : (n p : ℕ) (front : List ℕ) (read : Read (List ℕ)) → past n front read ≡ Err p → (q : ℕ) × (read ≡ Err q) × (p ≡ n + q)
past_err n p front (Ok x) e = absurd (cc)
past_err n p front (Err q) e = (q, refl, cc)

same_read : (r s : List ℕ × ℕ) → ◌≡◌ {A = Read (List ℕ)} (Ok r) (Ok s) → (r.0 ≡ s.0) × (r.1 ≡ s.1)
same_read r s e = let q : r ≡ s = cc in (ap (λ z. z.0) q, ap (λ z. z.1) q)

past_ok : (n : ℕ) (front : List ℕ) (read : Read (List ℕ)) (x : List ℕ × ℕ) → past n front read ≡ Ok x → (y : List ℕ × ℕ) × (read ≡ Ok y) × (x.0 ≡ front ++ y.0) × (x.1 ≡ n + y.1)
past_ok n front (Ok y) x e = let p = same_read (front ++ y.0, n + y.1) x e in (y, refl, sym p.0, sym p.1)
past_ok n front (Err q) x e = absurd (cc)

-- ---- bytes that stand for themselves

abbrev AllSelf : Form → List ℕ → Type 0
AllSelf form [] = Unit {0}
AllSelf form (b ∷ bs) = (is_itself form b ≡ true) × (b ≢ 34) × (b ≢ 92) × AllSelf form bs

self_to : (form : Form) (p xs t rest : List ℕ) → AllSelf form p → Spells form xs t rest → Spells form (p ++ xs) (p ++ t) rest
self_to form [] xs t rest a s = s
self_to form (b ∷ bs) xs t rest a s = itself a.0 (self_to form bs xs t rest a.3 s)

self_from : (form : Form) (p xs u rest : List ℕ) → AllSelf form p → Spells form (p ++ xs) u rest → (t : List ℕ) × (u ≡ p ++ t) × Spells form xs t rest
self_from form [] xs u rest a s = (u, refl, s)
self_from form (b ∷ bs) xs u rest a s = by (λ more k. self_from form bs xs more rest a.3 k) (inverted form b (bs ++ xs) u rest s)
  where
    by : ((more : List ℕ) → Spells form (bs ++ xs) more rest → (t : List ℕ) × (more ≡ bs ++ t) × Spells form xs t rest)
        → Inverted form b (bs ++ xs) u rest → (t : List ℕ) × (u ≡ (b ∷ bs) ++ t) × Spells form xs t rest
    by go (at_close e _ _) = absurd (a.1 e)
    by go (at_self more e is k) = let r = go more k in (r.0, is ∙ ap (λ z. b ∷ z) r.1, r.2)
    by go (at_short e d ys more is _ _ _ _) = absurd (a.2 is)
    by go (at_hex h l d ys more is _ _ _ _) = absurd (a.2 is)

high_self : (form : Form) (b : ℕ) → 128 ≤ b → (is_itself form b ≡ true) × (b ≢ 34) × (b ≢ 92)
high_self form b h = (high_is_itself form b h, λ e. absurd (omega arith), λ e. absurd (omega arith))

self_bytes : (form : Form) (c : ℕ) → Shape c → c ≢ 34 → c ≢ 92 → is_itself form c ≡ true → AllSelf form (encode_utf8 c)
self_bytes form c (of1 l e) n k i = subst (AllSelf form) (sym e) (i, n, k, tt)
self_bytes form c (of2 a b l u f s e) n k i =
    let x = high_self form a (omega arith) in
    let y = high_self form b f.0 in
    subst (AllSelf form) (sym e) (x.0, x.1, x.2, (y.0, y.1, y.2, tt))
self_bytes form c (of3 a b d l u f g s e) n k i =
    let x = high_self form a (omega arith) in
    let y = high_self form b f.0 in
    let z = high_self form d g.0 in
    subst (AllSelf form) (sym e) (x.0, x.1, x.2, (y.0, y.1, y.2, (z.0, z.1, z.2, tt)))
self_bytes form c (of4 a b d w l u f g m s e) n k i =
    let x = high_self form a (omega arith) in
    let y = high_self form b f.0 in
    let z = high_self form d g.0 in
    let v = high_self form w m.0 in
    subst (AllSelf form) (sym e) (x.0, x.1, x.2, (y.0, y.1, y.2, (z.0, z.1, z.2, (v.0, v.1, v.2, tt))))

self_of : (form : Form) (c : ℕ) → IsScalar c → c ≢ 34 → c ≢ 92 → is_itself form c ≡ true → AllSelf form (encode_utf8 c)
self_of form c h n k i = self_bytes form c (shape c (scalar_cases c h)) n k i

-- ---- what a text goes on with behind an escape

pub short_from : (form : Form) (c d : ℕ) (xs u rest : List ℕ) → c ≢ 120 → short_escape c ≡ Some d → Spells form (92 ∷ c ∷ xs) u rest → (t : List ℕ) × (u ≡ d ∷ t) × Spells form xs t rest
short_from form c d xs u rest n k s = by (inverted form 92 (c ∷ xs) u rest s)
  where
    by : Inverted form 92 (c ∷ xs) u rest → (t : List ℕ) × (u ≡ d ∷ t) × Spells form xs t rest
    by (at_close e _ _) = absurd (omega (arith, e))
    by (at_self more e _ _) = absurd (both_ways _ (escape_is_none form) e)
    by (at_short e g ys more _ is m grown sp) =
        let one : c ≡ e = cc in
        let two : ys ≡ xs = cc in
        let three : Some g ≡ Some d = sym m ∙ ap short_escape (sym one) ∙ k in
        let four : g ≡ d = cc in
        (more, grown ∙ ap (λ z. z ∷ more) four, subst (λ z. Spells form z more rest) two sp)
    by (at_hex h l g ys more _ is _ _ _) = absurd (n (cc))

pub hex_from : (form : Form) (h c d : ℕ) (xs u rest : List ℕ) → hex_escape form h c ≡ Some d → Spells form (92 ∷ 120 ∷ h ∷ c ∷ xs) u rest → (t : List ℕ) × (u ≡ d ∷ t) × Spells form xs t rest
hex_from form h c d xs u rest k s = by (inverted form 92 (120 ∷ h ∷ c ∷ xs) u rest s)
  where
    by : Inverted form 92 (120 ∷ h ∷ c ∷ xs) u rest → (t : List ℕ) × (u ≡ d ∷ t) × Spells form xs t rest
    by (at_close e _ _) = absurd (omega (arith, e))
    by (at_self more e _ _) = absurd (both_ways _ (escape_is_none form) e)
    by (at_short e g ys more _ is m _ _) = let same : e ≡ 120 = cc in let no : short_escape 120 ≡ Some g = ap short_escape (sym same) ∙ m in absurd (cc)
    by (at_hex i l g ys more _ is m grown sp) =
        let one : h ≡ i = cc in
        let two : c ≡ l = cc in
        let three : ys ≡ xs = cc in
        let four : Some g ≡ Some d = sym m ∙ ap (λ z. hex_escape form z l) (sym one) ∙ ap (hex_escape form h) (sym two) ∙ k in
        let five : g ≡ d = cc in
        (more, grown ∙ ap (λ z. z ∷ more) five, subst (λ z. Spells form z more rest) three sp)

-- what is escaped is one byte
short_low : (c d : ℕ) → short_escape c ≡ Some d → c < 128
short_low c d e = elim (cases_lt c 128) [ inl h ↦ h | inr h ↦ absurd (high_no_short c d h e) ]

-- ---- a character further

-- what is known at the next place
reached_enter : (form : Form) (m : List ℕ) (s t : Inside) (c : ℕ) → Reached form m s → next_step form s (256 - length m) c ≡ Enter t → IsLead form t → Reached form m t
reached_enter form m s t c r e l = record { utf8 = r.utf8; most = r.most; room = room_enters form s t (256 - length m) c r.room e; lead = l }

long_more : (m : List ℕ) (d : ℕ) → length (m ++ encode_utf8 d) ≡ length m + len_utf8 d
long_more m d = length-append m (encode_utf8 d) ∙ ap (λ n. length m + n) (length-encode d)

reached_give : (form : Form) (m : List ℕ) (s : Inside) (c d : ℕ) → Reached form m s → next_step form s (256 - length m) c ≡ Give d → IsScalar d → Reached form (m ++ encode_utf8 d) Plain
reached_give form m s c d r e h =
    let fits = room_gives form s (256 - length m) c d r.room e in
    record { utf8 = IsUtf8-append m _ r.utf8 (IsUtf8-encode d h); most = omega (arith, long_more m d, r.most); room = tt; lead = tt }

-- the rest of a refusal behind an entered place
refused_on : (form : Form) (m : List ℕ) (s t : Inside) (c q : ℕ) (bs : List ℕ) → c < 128 → ((xs : List ℕ) → Member form m t xs → Member form m s (c ∷ xs)) → ((xs : List ℕ) → Member form m s (c ∷ xs) → Member form m t xs)
    → IsRefusedAt (Member form m t) bs q → IsRefusedAt (Member form m s) (encode_utf8 c ++ bs) (len_utf8 c + q)
refused_on form m s t c q bs low to from h =
    let place : suc q ≡ len_utf8 c + q = omega (arith, len_utf8_ascii c low) in
    subst (λ p. IsRefusedAt (Member form m s) (p ++ bs) (len_utf8 c + q)) (sym (encode_ascii c low))
    (subst (IsRefusedAt (Member form m s) (c ∷ bs)) place (refused_next (Member form m s) c bs q (refused_same (Member form m t) (λ xs. Member form m s (c ∷ xs)) bs q to from h)))

-- and behind what means a character
refused_given : (form : Form) (m : List ℕ) (s : Inside) (c d q : ℕ) (bs : List ℕ)
    → ((xs t : List ℕ) → Spells form xs t [] → SpelledFrom form s (encode_utf8 c ++ xs) (encode_utf8 d ++ t) [])
    → ((xs u : List ℕ) → SpelledFrom form s (encode_utf8 c ++ xs) u [] → (t : List ℕ) × (u ≡ encode_utf8 d ++ t) × Spells form xs t [])
    → IsRefusedAt (Member form (m ++ encode_utf8 d) Plain) bs q → IsRefusedAt (Member form m s) (encode_utf8 c ++ bs) (len_utf8 c + q)
refused_given form m s c d q bs to from h =
    let on : (xs : List ℕ) → Member form (m ++ encode_utf8 d) Plain xs → Member form m s (encode_utf8 c ++ xs) =
    λ xs k. record {
      text = encode_utf8 d ++ k.text;
      spelled = to xs k.text k.spelled;
      most = omega (arith, k.most, ap length (append_assoc m (encode_utf8 d) k.text));
      utf8 = subst IsUtf8 (append_assoc m (encode_utf8 d) k.text) k.utf8;
    } in
    let back : (xs : List ℕ) → Member form m s (encode_utf8 c ++ xs) → Member form (m ++ encode_utf8 d) Plain xs =
    λ xs k. let t = from xs k.text k.spelled in
    let same : m ++ k.text ≡ (m ++ encode_utf8 d) ++ t.0 = ap (λ z. m ++ z) t.1 ∙ sym (append_assoc m (encode_utf8 d) t.0) in
    record { text = t.0; spelled = t.2; most = omega (arith, k.most, ap length same); utf8 = subst IsUtf8 same k.utf8 } in
    subst (λ n. IsRefusedAt (Member form m s) (encode_utf8 c ++ bs) (n + q)) (length-encode c)
    (refused_after (Member form m s) (encode_utf8 c) bs q (refused_same (Member form (m ++ encode_utf8 d) Plain) (λ xs. Member form m s (encode_utf8 c ++ xs)) bs q on back h))

-- a character at which nothing goes on
refused_first : (form : Form) (m : List ℕ) (s : Inside) (c : ℕ) (b : Bytes c) (bs : List ℕ) → Reached form m s → ((xs : List ℕ) → Member form m s (b.first ∷ xs) → ⊥) → IsRefusedAt (Member form m s) (encode_utf8 c ++ bs) 0
refused_first form m s c b bs r none =
    let w = some_member form m s r in
    subst (λ p. IsRefusedAt (Member form m s) (p ++ bs) 0) (sym b.are) (refused_here (Member form m s) b.first (b.more ++ bs) w.0 w.1 none)

-- ---- what is refused

ends_none : (form : Form) (m : List ℕ) (s : Inside) → ¬ (Member form m s [])
ends_none form m Open k = cc (k.spelled.1)
ends_none form m Plain k = not_empty form k.text [] k.spelled
ends_none form m Escape k = by (inverted form 92 [] k.text [] k.spelled)
  where
    by : Inverted form 92 [] k.text [] → ⊥
    by (at_close e _ _) = absurd (omega (arith, e))
    by (at_self more e _ _) = both_ways _ (escape_is_none form) e
    by (at_short e d ys more _ is _ _ _) = cc
    by (at_hex h l d ys more _ is _ _ _) = cc
ends_none form m Hex k = by (inverted form 92 (120 ∷ []) k.text [] k.spelled)
  where
    by : Inverted form 92 (120 ∷ []) k.text [] → ⊥
    by (at_close e _ _) = absurd (omega (arith, e))
    by (at_self more e _ _) = both_ways _ (escape_is_none form) e
    by (at_short e d ys more _ is n _ _) = let same : e ≡ 120 = cc in let no : short_escape 120 ≡ Some d = ap short_escape (sym same) ∙ n in cc
    by (at_hex h l d ys more _ is _ _ _) = cc
ends_none form m (Low h) k = by (inverted form 92 (120 ∷ h ∷ []) k.text [] k.spelled)
  where
    by : Inverted form 92 (120 ∷ h ∷ []) k.text [] → ⊥
    by (at_close e _ _) = absurd (omega (arith, e))
    by (at_self more e _ _) = both_ways _ (escape_is_none form) e
    by (at_short e d ys more _ is n _ _) = let same : e ≡ 120 = cc in let no : short_escape 120 ≡ Some d = ap short_escape (sym same) ∙ n in cc
    by (at_hex i l d ys more _ is _ _ _) = cc

-- the same of the rest of the characters
abbrev Refuses : Form → List ℕ → List ℕ → Type 0
Refuses form cs bs = (m : List ℕ) (s : Inside) → Reached form m s → (p : ℕ) → inside_at form cs s (256 - length m) ≡ Err p → IsRefusedAt (Member form m s) bs p

-- the rest where a character was given
refuses_give : (form : Form) (m : List ℕ) (s : Inside) (c d p : ℕ) (cs bs : List ℕ) → IsScalar d → Reached form m s → next_step form s (256 - length m) c ≡ Give d → Refuses form cs bs
    → ((xs t : List ℕ) → Spells form xs t [] → SpelledFrom form s (encode_utf8 c ++ xs) (encode_utf8 d ++ t) [])
    → ((xs u : List ℕ) → SpelledFrom form s (encode_utf8 c ++ xs) u [] → (t : List ℕ) × (u ≡ encode_utf8 d ++ t) × Spells form xs t [])
    → past (len_utf8 c) (encode_utf8 d) (inside_at form cs Plain ((256 - length m) - len_utf8 d)) ≡ Err p → IsRefusedAt (Member form m s) (encode_utf8 c ++ bs) p
refuses_give form m s c d p cs bs h r e go to from k =
    let left : 256 - length (m ++ encode_utf8 d) ≡ (256 - length m) - len_utf8 d = omega (arith, long_more m d) in
    let q = past_err (len_utf8 c) p (encode_utf8 d) _ k in
    let there = go (m ++ encode_utf8 d) Plain (reached_give form m s c d r e h) q.0 (ap (inside_at form cs Plain) left ∙ q.1) in
    subst (IsRefusedAt (Member form m s) (encode_utf8 c ++ bs)) (sym q.2) (refused_given form m s c d q.0 bs to from there)

low_scalar : (d : ℕ) → d < 128 → IsScalar d
low_scalar d h = scalar_of d (inl (omega arith))

-- one byte that means one byte
plain_bytes : (c d : ℕ) (P : List ℕ → List ℕ → Type 0) → c < 128 → d < 128 → P (c ∷ []) (d ∷ []) → P (encode_utf8 c) (encode_utf8 d)
plain_bytes c d P l k h = subst (λ x. P x (encode_utf8 d)) (sym (encode_ascii c l)) (subst (λ y. P (c ∷ []) y) (sym (encode_ascii d k)) h)

refuses_by : (form : Form) (m : List ℕ) (c p : ℕ) (cs bs : List ℕ) (s : Inside) (st : Step) → IsScalar c → Reached form m s → Refuses form cs bs → next_step form s (256 - length m) c ≡ st → Moved form (256 - length m) c s st
    → goes_on (256 - length m) (len_utf8 c) (λ n l. inside_at form cs n l) st ≡ Err p → IsRefusedAt (Member form m s) (encode_utf8 c ++ bs) p
refuses_by form m c p cs bs _ _ h r go e (opens is) k =
    let q = past_err (len_utf8 c) p [] _ k in
    subst (IsRefusedAt (Member form m Open) (encode_utf8 c ++ bs)) (sym q.2)
    (refused_on form m Open Plain c q.0 bs (omega arith)
    (λ xs t. record { text = t.text; spelled = (xs, ap (λ b. b ∷ xs) is, t.spelled); most = t.most; utf8 = t.utf8 })
    (λ xs t. record { text = t.text; spelled = (let same : t.spelled.0 ≡ xs = cc (t.spelled.1) in subst (λ z. Spells form z t.text []) same t.spelled.2); most = t.most; utf8 = t.utf8 })
    (go m Plain (reached_enter form m Open Plain c r e tt) q.0 q.1))
refuses_by form m c p cs bs _ _ h r go e (not_open n) k =
    let b = bytes c h in
    let zero : 0 ≡ p = cc in
    subst (IsRefusedAt (Member form m Open) (encode_utf8 c ++ bs)) zero
    (refused_first form m Open c b bs r (λ xs t. first_apart c 34 b (omega arith) n (let same : b.first ≡ 34 = cc (t.spelled.1) in same)))
refuses_by form m c p cs bs _ _ h r go e (closes is) k = absurd (cc)
refuses_by form m c p cs bs _ _ h r go e (full n l) k =
    let b = bytes c h in
    let zero : 0 ≡ p = cc in
    subst (IsRefusedAt (Member form m Plain) (encode_utf8 c ++ bs)) zero
    (refused_first form m Plain c b bs r (λ xs t. no_room form m c b xs r.utf8 r.most n l t))
refuses_by form m c p cs bs _ _ h r go e (escapes is l) k =
    let q = past_err (len_utf8 c) p [] _ k in
    subst (IsRefusedAt (Member form m Plain) (encode_utf8 c ++ bs)) (sym q.2)
    (refused_on form m Plain Escape c q.0 bs (omega arith)
    (λ xs t. record { text = t.text; spelled = subst (λ b. Spells form (b ∷ xs) t.text []) (sym is) t.spelled; most = t.most; utf8 = t.utf8 })
    (λ xs t. record { text = t.text; spelled = subst (λ b. Spells form (b ∷ xs) t.text []) is t.spelled; most = t.most; utf8 = t.utf8 })
    (go m Escape (reached_enter form m Plain Escape c r e tt) q.0 q.1))
refuses_by form m c p cs bs _ _ h r go e (stays n l fits i) k =
    let a = self_of form c h n l i in
    refuses_give form m Plain c c p cs bs h r e go (λ xs t s. self_to form (encode_utf8 c) xs t [] a s) (λ xs u s. self_from form (encode_utf8 c) xs u [] a s) k
refuses_by form m c p cs bs _ _ h r go e (refused n l i) k =
    let b = bytes c h in
    let zero : 0 ≡ p = cc in
    subst (IsRefusedAt (Member form m Plain) (encode_utf8 c ++ bs)) zero
    (refused_first form m Plain c b bs r (λ xs t. no_self form m c b xs n l i t))
refuses_by form m c p cs bs _ _ h r go e (to_hex is) k =
    let q = past_err (len_utf8 c) p [] _ k in
    subst (IsRefusedAt (Member form m Escape) (encode_utf8 c ++ bs)) (sym q.2)
    (refused_on form m Escape Hex c q.0 bs (omega arith)
    (λ xs t. record { text = t.text; spelled = subst (λ b. Spells form (92 ∷ b ∷ xs) t.text []) (sym is) t.spelled; most = t.most; utf8 = t.utf8 })
    (λ xs t. record { text = t.text; spelled = subst (λ b. Spells form (92 ∷ b ∷ xs) t.text []) is t.spelled; most = t.most; utf8 = t.utf8 })
    (go m Hex (reached_enter form m Escape Hex c r e tt) q.0 q.1))
refuses_by form m c p cs bs _ _ h r go e (shorts {d = d} n is) k =
    let low = short_low c d is in
    let given = given_short c d is in
    refuses_give form m Escape c d p cs bs (low_scalar d given) r e go
    (plain_bytes c d (λ x y. (xs t : List ℕ) → Spells form xs t [] → Spells form (92 ∷ x ++ xs) (y ++ t) []) low given (λ xs t s. short is s))
    (plain_bytes c d (λ x y. (xs u : List ℕ) → Spells form (92 ∷ x ++ xs) u [] → (t : List ℕ) × (u ≡ y ++ t) × Spells form xs t []) low given (λ xs u s. short_from form c d xs u [] n is s)) k
refuses_by form m c p cs bs _ _ h r go e (no_short n is) k =
    let b = bytes c h in
    let zero : 0 ≡ p = cc in
    subst (IsRefusedAt (Member form m Escape) (encode_utf8 c ++ bs)) zero
    (refused_first form m Escape c b bs r (λ xs t. no_short_first form c b xs t.text n is t.spelled))
refuses_by form m c p cs bs _ _ h r go e (leads is) k =
    let q = past_err (len_utf8 c) p [] _ k in
    subst (IsRefusedAt (Member form m Hex) (encode_utf8 c ++ bs)) (sym q.2)
    (refused_on form m Hex (Low c) c q.0 bs (low_of_lead form c is)
    (λ xs t. record { text = t.text; spelled = t.spelled; most = t.most; utf8 = t.utf8 })
    (λ xs t. record { text = t.text; spelled = t.spelled; most = t.most; utf8 = t.utf8 })
    (go m (Low c) (reached_enter form m Hex (Low c) c r e is) q.0 q.1))
refuses_by form m c p cs bs _ _ h r go e (no_lead is) k =
    let b = bytes c h in
    let zero : 0 ≡ p = cc in
    subst (IsRefusedAt (Member form m Hex) (encode_utf8 c ++ bs)) zero
    (refused_first form m Hex c b bs r (λ xs t. no_lead_first form c b xs t.text is t.spelled))
refuses_by form m c p cs bs _ _ h r go e (hexes {h = g} {d = d} is) k =
    let low = digit_low c (hex_parts form g c d is).1 in
    let given = given_hex form g c d is in
    refuses_give form m (Low g) c d p cs bs (low_scalar d given) r e go
    (plain_bytes c d (λ x y. (xs t : List ℕ) → Spells form xs t [] → Spells form (92 ∷ 120 ∷ g ∷ x ++ xs) (y ++ t) []) low given (λ xs t s. hex is s))
    (plain_bytes c d (λ x y. (xs u : List ℕ) → Spells form (92 ∷ 120 ∷ g ∷ x ++ xs) u [] → (t : List ℕ) × (u ≡ y ++ t) × Spells form xs t []) low given (λ xs u s. hex_from form g c d xs u [] is s)) k
refuses_by form m c p cs bs _ _ h r go e (no_hex {h = g} is) k =
    let b = bytes c h in
    let zero : 0 ≡ p = cc in
    subst (IsRefusedAt (Member form m (Low g)) (encode_utf8 c ++ bs)) zero
    (refused_first form m (Low g) c b bs r (λ xs t. no_hex_first form g c b xs t.text is t.spelled))

pub refuses : (form : Form) (cs : List ℕ) → all_scalars cs ≡ true → Refuses form cs (encode_utf8_all cs)
refuses form [] h m s r p e =
    let w = some_member form m s r in
    let zero : 0 ≡ p = cc in
    subst (IsRefusedAt (Member form m s) []) zero (refused_end (Member form m s) w.0 w.1 (ends_none form m s))
refuses form (c ∷ cs) h m s r p e =
    let parts = and_parts (is_scalar c) (all_scalars cs) h in
    refuses_by form m c p cs (encode_utf8_all cs) s (next_step form s (256 - length m) c) parts.0 r (refuses form cs parts.1) refl (moved form (256 - length m) c s) e

-- ---- what is read

-- the bytes begin with the text that was read, and so many bytes are its
pub record Found (form : Form) (m : List ℕ) (s : Inside) (bs : List ℕ) (x : List ℕ × ℕ) : Type 0 where
  pub spelled : SpelledFrom form s bs x.0 (drop x.1 bs)
  pub most : length (m ++ x.0) ≤ 256
  pub utf8 : IsUtf8 (m ++ x.0)
  pub fits : x.1 ≤ length bs

abbrev Reads : Form → List ℕ → List ℕ → Type 0
Reads form cs bs = (m : List ℕ) (s : Inside) → Reached form m s → (x : List ℕ × ℕ) → inside_at form cs s (256 - length m) ≡ Ok x → Found form m s bs x

rest_of : (c j : ℕ) (bs : List ℕ) → drop (len_utf8 c + j) (encode_utf8 c ++ bs) ≡ drop j bs
rest_of c j bs = ap (λ n. drop (n + j) (encode_utf8 c ++ bs)) (sym (length-encode c)) ∙ drop-append-add (encode_utf8 c) bs j

-- behind an entered place
found_on : (form : Form) (m : List ℕ) (s t : Inside) (c : ℕ) (bs : List ℕ) (x y : List ℕ × ℕ) → c < 128 → ((xs u rest : List ℕ) → SpelledFrom form t xs u rest → SpelledFrom form s (c ∷ xs) u rest)
    → x.0 ≡ y.0 → x.1 ≡ len_utf8 c + y.1 → Found form m t bs y → Found form m s (encode_utf8 c ++ bs) x
found_on form m s t c bs x y low to same count f =
    let rest : drop y.1 bs ≡ drop x.1 (encode_utf8 c ++ bs) = sym (ap (λ n. drop n (encode_utf8 c ++ bs)) count ∙ rest_of c y.1 bs) in
    record {
      spelled = subst (λ r. SpelledFrom form s (encode_utf8 c ++ bs) x.0 r) rest
          (subst (λ u. SpelledFrom form s (encode_utf8 c ++ bs) u (drop y.1 bs)) (sym same)
          (subst (λ p. SpelledFrom form s (p ++ bs) y.0 (drop y.1 bs)) (sym (encode_ascii c low)) (to bs y.0 (drop y.1 bs) f.spelled)));
      most = subst (λ u. length (m ++ u) ≤ 256) (sym same) f.most;
      utf8 = subst (λ u. IsUtf8 (m ++ u)) (sym same) f.utf8;
      fits = omega (arith, count, f.fits, length-append (encode_utf8 c) bs, length-encode c);
    }

-- behind what means a character
found_given : (form : Form) (m : List ℕ) (s : Inside) (c d : ℕ) (cs bs : List ℕ) (x : List ℕ × ℕ) → IsScalar d → Reached form m s → next_step form s (256 - length m) c ≡ Give d → Reads form cs bs
    → ((xs t rest : List ℕ) → Spells form xs t rest → SpelledFrom form s (encode_utf8 c ++ xs) (encode_utf8 d ++ t) rest)
    → past (len_utf8 c) (encode_utf8 d) (inside_at form cs Plain ((256 - length m) - len_utf8 d)) ≡ Ok x → Found form m s (encode_utf8 c ++ bs) x
found_given form m s c d cs bs x h r e go to k =
    let left : 256 - length (m ++ encode_utf8 d) ≡ (256 - length m) - len_utf8 d = omega (arith, long_more m d) in
    let q = past_ok (len_utf8 c) (encode_utf8 d) _ x k in
    let y = q.0 in
    let f = go (m ++ encode_utf8 d) Plain (reached_give form m s c d r e h) y (ap (inside_at form cs Plain) left ∙ q.1) in
    let rest : drop y.1 bs ≡ drop x.1 (encode_utf8 c ++ bs) = sym (ap (λ n. drop n (encode_utf8 c ++ bs)) q.3 ∙ rest_of c y.1 bs) in
    let same : m ++ x.0 ≡ (m ++ encode_utf8 d) ++ y.0 = ap (λ u. m ++ u) q.2 ∙ sym (append_assoc m (encode_utf8 d) y.0) in
    record {
      spelled = subst (λ w. SpelledFrom form s (encode_utf8 c ++ bs) x.0 w) rest
          (subst (λ u. SpelledFrom form s (encode_utf8 c ++ bs) u (drop y.1 bs)) (sym q.2) (to bs y.0 (drop y.1 bs) f.spelled));
      most = subst (λ u. length u ≤ 256) (sym same) f.most;
      utf8 = subst IsUtf8 (sym same) f.utf8;
      fits = omega (arith, q.3, f.fits, length-append (encode_utf8 c) bs, length-encode c);
    }

reads_by : (form : Form) (m : List ℕ) (c : ℕ) (x : List ℕ × ℕ) (cs bs : List ℕ) (s : Inside) (st : Step) → IsScalar c → Reached form m s → Reads form cs bs → next_step form s (256 - length m) c ≡ st → Moved form (256 - length m) c s st
    → goes_on (256 - length m) (len_utf8 c) (λ n l. inside_at form cs n l) st ≡ Ok x → Found form m s (encode_utf8 c ++ bs) x
reads_by form m c x cs bs _ _ h r go e (opens is) k =
    let q = past_ok (len_utf8 c) [] _ x k in
    found_on form m Open Plain c bs x q.0 (omega arith) (λ xs u rest s. (xs, ap (λ b. b ∷ xs) is, s)) q.2 q.3 (go m Plain (reached_enter form m Open Plain c r e tt) q.0 q.1)
reads_by form m c x cs bs _ _ h r go e (not_open n) k = absurd (cc)
reads_by form m c x cs bs _ _ h r go e (closes is) k =
    let p = same_read ([], 1) x k in
    let low : c < 128 = omega arith in
    let rest : bs ≡ drop x.1 (c ∷ bs) = ap (λ n. drop n (c ∷ bs)) p.1 in
    let there : Spells form (c ∷ bs) [] bs = subst (λ b. Spells form (b ∷ bs) [] bs) (sym is) closing in
    record {
      spelled = subst (λ z. Spells form (z ++ bs) x.0 (drop x.1 (z ++ bs))) (sym (encode_ascii c low))
          (subst (λ w. Spells form (c ∷ bs) x.0 w) rest (subst (λ u. Spells form (c ∷ bs) u bs) p.0 there));
      most = subst (λ u. length (m ++ u) ≤ 256) p.0 (omega (arith, r.most, length-append m ([])));
      utf8 = subst (λ u. IsUtf8 (m ++ u)) p.0 (subst IsUtf8 (sym (append-nil m)) r.utf8);
      fits = omega (arith, p.1, length-append (encode_utf8 c) bs, length-encode c, len_utf8_ascii c low);
    }
reads_by form m c x cs bs _ _ h r go e (full n l) k = absurd (cc)
reads_by form m c x cs bs _ _ h r go e (escapes is l) k =
    let q = past_ok (len_utf8 c) [] _ x k in
    found_on form m Plain Escape c bs x q.0 (omega arith) (λ xs u rest s. subst (λ b. Spells form (b ∷ xs) u rest) (sym is) s) q.2 q.3 (go m Escape (reached_enter form m Plain Escape c r e tt) q.0 q.1)
reads_by form m c x cs bs _ _ h r go e (stays n l fits i) k =
    let a = self_of form c h n l i in
    found_given form m Plain c c cs bs x h r e go (λ xs t rest s. self_to form (encode_utf8 c) xs t rest a s) k
reads_by form m c x cs bs _ _ h r go e (refused n l i) k = absurd (cc)
reads_by form m c x cs bs _ _ h r go e (to_hex is) k =
    let q = past_ok (len_utf8 c) [] _ x k in
    found_on form m Escape Hex c bs x q.0 (omega arith) (λ xs u rest s. subst (λ b. Spells form (92 ∷ b ∷ xs) u rest) (sym is) s) q.2 q.3 (go m Hex (reached_enter form m Escape Hex c r e tt) q.0 q.1)
reads_by form m c x cs bs _ _ h r go e (shorts {d = d} n is) k =
    let low = short_low c d is in
    let given = given_short c d is in
    found_given form m Escape c d cs bs x (low_scalar d given) r e go
    (plain_bytes c d (λ y z. (xs t rest : List ℕ) → Spells form xs t rest → Spells form (92 ∷ y ++ xs) (z ++ t) rest) low given (λ xs t rest s. short is s)) k
reads_by form m c x cs bs _ _ h r go e (no_short n is) k = absurd (cc)
reads_by form m c x cs bs _ _ h r go e (leads is) k =
    let q = past_ok (len_utf8 c) [] _ x k in
    found_on form m Hex (Low c) c bs x q.0 (low_of_lead form c is) (λ xs u rest s. s) q.2 q.3 (go m (Low c) (reached_enter form m Hex (Low c) c r e is) q.0 q.1)
reads_by form m c x cs bs _ _ h r go e (no_lead is) k = absurd (cc)
reads_by form m c x cs bs _ _ h r go e (hexes {h = g} {d = d} is) k =
    let low = digit_low c (hex_parts form g c d is).1 in
    let given = given_hex form g c d is in
    found_given form m (Low g) c d cs bs x (low_scalar d given) r e go
    (plain_bytes c d (λ y z. (xs t rest : List ℕ) → Spells form xs t rest → Spells form (92 ∷ 120 ∷ g ∷ y ++ xs) (z ++ t) rest) low given (λ xs t rest s. hex is s)) k
reads_by form m c x cs bs _ _ h r go e (no_hex {h = g} is) k = absurd (cc)

pub reads : (form : Form) (cs : List ℕ) → all_scalars cs ≡ true → Reads form cs (encode_utf8_all cs)
reads form [] h m s r x e = absurd (cc)
reads form (c ∷ cs) h m s r x e =
    let parts = and_parts (is_scalar c) (all_scalars cs) h in
    reads_by form m c x cs (encode_utf8_all cs) s (next_step form s (256 - length m) c) parts.0 r (reads form cs parts.1) refl (moved form (256 - length m) c s) e
