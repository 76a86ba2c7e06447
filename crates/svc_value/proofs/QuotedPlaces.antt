-- Whole quoted texts.
use Rattle.std.proofs.Common.{◌≡◌, ◌≢◌, refl, sym, ap, subst, ◌∙◌, ℕ, ◌+◌, ◌-◌, ◌<◌, ◌≤◌, false, List, [], ◌∷◌, ◌++◌, length, take, drop, Some, Ok, Err, arith, append_assoc, length-append, length-take, length-drop, IsUtf8, chars}
use Rattle.std.proofs.lemmas.Bool.{both_ways}
use Rattle.std.proofs.lemmas.Str.{IsUtf8-nil, encodes-chars, scalars-chars}
use Rattle.std.proofs.Math.Seq.{take-append_seam, take-append-add}
use Rattle.svc_value.specs.declared.inside.Form.{Form}
use Rattle.svc_value.specs.declared.inside.Form.TheVariants.{Any, Printed}
use Rattle.svc_value.specs.declared.inside.Inside.TheVariants.{Open}
use Rattle.svc_value.specs.Literal.{IsWholeQuoted}
use Rattle.svc_value.specs.Prefix.{IsRefusedAt}
use Rattle.svc_value.specs.Quoted.{is_itself, short_escape, Spells, closing, itself, short, hex, IsQuoted}
use Rattle.svc_value.specs.Reading.{inside_at}
use Rattle.svc_value.proofs.Places.{refused_same}
use Rattle.svc_value.proofs.InsidePlaces.{Inverted, at_close, at_self, at_short, at_hex, inverted, escape_is_none}
use Rattle.svc_value.proofs.InsideStuck.{Member, Reached}
use Rattle.svc_value.proofs.InsideReading.{short_from, hex_from, Found, reads, refuses}

-- ---- no quoted text begins another

quote_is_none : (form : Form) → is_itself form 34 ≡ false
quote_is_none Any = refl
quote_is_none Printed = refl

-- the bytes that spell the text, and that nothing else is spelled by bytes that begin so
pub record Front (form : Form) (xs t rest : List ℕ) : Type 0 where
  pub front : List ℕ
  pub split : xs ≡ front ++ rest
  pub again : (r : List ℕ) → Spells form (front ++ r) t r
  pub only : (ys u r : List ℕ) → Spells form (front ++ ys) u r → (u ≡ t) × (ys ≡ r)

pub front_of : (form : Form) (xs t rest : List ℕ) → Spells form xs t rest → Front form xs t rest
front_of form _ _ rest closing = record {
  front = 34 ∷ [];
  split = refl;
  again = λ r. closing;
  only = λ ys u r s. by ys u r (inverted form 34 ys u r s);
}
  where
    by : (ys u r : List ℕ) → Inverted form 34 ys u r → (u ≡ []) × (ys ≡ r)
    by ys u r (at_close _ e k) = (e, k)
    by ys u r (at_self more e _ _) = absurd (both_ways _ (quote_is_none form) e)
    by ys u r (at_short e d zs more is _ _ _ _) = absurd (omega (arith, is))
    by ys u r (at_hex h l d zs more is _ _ _ _) = absurd (omega (arith, is))
front_of form _ _ rest (itself {byte = b} {bytes = bs} {text = t} k s) = grown (front_of form bs t rest s)
  where
    grown : Front form bs t rest → Front form (b ∷ bs) (b ∷ t) rest
    grown f = record {
      front = b ∷ f.front;
      split = ap (λ z. b ∷ z) f.split;
      again = λ r. itself k (f.again r);
      only = λ ys u r v. by f ys u r (inverted form b (f.front ++ ys) u r v);
    }
      where
        by : (f : Front form bs t rest) (ys u r : List ℕ) → Inverted form b (f.front ++ ys) u r → (u ≡ b ∷ t) × (ys ≡ r)
        by f ys u r (at_close e _ _) = absurd (both_ways _ (quote_is_none form) (ap (is_itself form) (sym e) ∙ k))
        by f ys u r (at_self more e is v) = let o = f.only ys more r v in (is ∙ ap (λ z. b ∷ z) o.0, o.1)
        by f ys u r (at_short e d zs more is _ _ _ _) = absurd (both_ways _ (escape_is_none form) (ap (is_itself form) (sym is) ∙ k))
        by f ys u r (at_hex h l d zs more is _ _ _ _) = absurd (both_ways _ (escape_is_none form) (ap (is_itself form) (sym is) ∙ k))
front_of form _ _ rest (short {byte = e} {means = d} {bytes = bs} {text = t} k s) = grown (front_of form bs t rest s)
  where
    apart : e ≢ 120
    apart is = let no : short_escape 120 ≡ Some d = ap short_escape (sym is) ∙ k in cc

    grown : Front form bs t rest → Front form (92 ∷ e ∷ bs) (d ∷ t) rest
    grown f = record {
      front = 92 ∷ e ∷ f.front;
      split = ap (λ z. 92 ∷ e ∷ z) f.split;
      again = λ r. short k (f.again r);
      only = λ ys u r v. let w = short_from form e d (f.front ++ ys) u r apart k v in let o = f.only ys w.0 r w.2 in (w.1 ∙ ap (λ z. d ∷ z) o.0, o.1);
    }
front_of form _ _ rest (hex {high = h} {low = l} {means = d} {bytes = bs} {text = t} k s) = grown (front_of form bs t rest s)
  where
    grown : Front form bs t rest → Front form (92 ∷ 120 ∷ h ∷ l ∷ bs) (d ∷ t) rest
    grown f = record {
      front = 92 ∷ 120 ∷ h ∷ l ∷ f.front;
      split = ap (λ z. 92 ∷ 120 ∷ h ∷ l ∷ z) f.split;
      again = λ r. hex k (f.again r);
      only = λ ys u r v. let w = hex_from form h l d (f.front ++ ys) u r k v in let o = f.only ys w.0 r w.2 in (w.1 ∙ ap (λ z. d ∷ z) o.0, o.1);
    }

-- ---- whole texts

start : (form : Form) → Reached form [] Open
start form = record { utf8 = IsUtf8-nil; most = omega arith; room = tt; lead = tt }

pub quoted_refused : (form : Form) (text : List ℕ) (p : ℕ) → IsUtf8 text → inside_at form (chars text) Open 256 ≡ Err p → IsRefusedAt (IsWholeQuoted form) text p
quoted_refused form text p u e =
    let there = subst (λ bs. IsRefusedAt (Member form [] Open) bs p) (encodes-chars text u) (refuses form (chars text) (scalars-chars text u) [] Open (start form) p e) in
    refused_same (Member form [] Open) (IsWholeQuoted form) text p
    (λ xs k. (k.text, record { inside = k.spelled.0; opening = k.spelled.1; spelled = k.spelled.2; most = k.most; utf8 = k.utf8 }))
    (λ xs k. record { text = k.0; spelled = (k.1.inside, k.1.opening, k.1.spelled); most = k.1.most; utf8 = k.1.utf8 }) there

pub quoted_read : (form : Form) (text : List ℕ) (x : List ℕ × ℕ) → IsUtf8 text → inside_at form (chars text) Open 256 ≡ Ok x → IsQuoted form text x.0 (drop x.1 text) × (x.1 ≤ length text)
quoted_read form text x u e =
    let f = subst (λ bs. Found form [] Open bs x) (encodes-chars text u) (reads form (chars text) (scalars-chars text u) [] Open (start form) x e) in
    (record { inside = f.spelled.0; opening = f.spelled.1; spelled = f.spelled.2; most = f.most; utf8 = f.utf8 }, f.fits)

-- bytes that follow a quoted text
pub quoted_over : (form : Form) (text t : List ℕ) (n : ℕ) → IsQuoted form text t (drop n text) → n < length text → IsRefusedAt (IsWholeQuoted form) text n
quoted_over form text t n q less =
    let f = front_of form q.inside t (drop n text) q.spelled in
    let whole : text ≡ (34 ∷ f.front) ++ drop n text = q.opening ∙ ap (λ z. 34 ∷ z) f.split in
    let long : length (34 ∷ f.front) ≡ n = omega (arith, ap length whole, length-append (34 ∷ f.front) (drop n text), length-drop n text, less) in
    let front : take n text ≡ 34 ∷ f.front = ap (take n) whole ∙ ap (λ k. take k ((34 ∷ f.front) ++ drop n text)) (sym long) ∙ take-append_seam (34 ∷ f.front) (drop n text) in
    record {
      none = λ k. over f (drop n text) (omega (arith, length-drop n text, less)) k.0 [] (subst (λ z. IsQuoted form z k.0 []) whole k.1);
      at = record {
        within = omega arith;
        begins = record { rest = []; member = subst (λ z. IsWholeQuoted form (z ++ [])) (sym front) (t, record { inside = f.front ++ []; opening = refl; spelled = f.again []; most = q.most; utf8 = q.utf8 }) };
        longest = λ k more le b.
            let j : ℕ = k - n in
            let sum : n + j ≡ k = omega arith in
            let cut : take k text ≡ (34 ∷ f.front) ++ take j (drop n text) =
            ap (λ i. take i text) (sym sum) ∙ ap (take (n + j)) whole ∙ ap (λ i. take (i + j) ((34 ∷ f.front) ++ drop n text)) (sym long) ∙ take-append-add (34 ∷ f.front) (drop n text) j in
            let all : take k text ++ b.rest ≡ (34 ∷ f.front) ++ (take j (drop n text) ++ b.rest) = ap (λ z. z ++ b.rest) cut ∙ append_assoc (34 ∷ f.front) (take j (drop n text)) b.rest in
            over f (take j (drop n text) ++ b.rest) (omega (arith, length-append (take j (drop n text)) b.rest, length-take j (drop n text), length-drop n text)) b.member.0 []
            (subst (λ z. IsQuoted form z b.member.0 []) all b.member.1);
      };
    }
  where
    over : (f : Front form q.inside t (drop n text)) (more : List ℕ) → 0 < length more → (u r : List ℕ) → IsQuoted form ((34 ∷ f.front) ++ more) u [] → ⊥
    over f more some u r k =
        let same : f.front ++ more ≡ k.inside = cc (k.opening) in
        let o = f.only more u [] (subst (λ z. Spells form z u []) (sym same) k.spelled) in
        absurd (omega (arith, some, ap length o.1))

-- one meaning
pub one_quoted : (form : Form) (xs t u : List ℕ) → IsQuoted form xs t [] → IsQuoted form xs u [] → t ≡ u
one_quoted form xs t u p q =
    let same : q.inside ≡ p.inside = cc (p.opening, q.opening) in
    let f = front_of form p.inside t [] p.spelled in
    let o = f.only [] u [] (subst (λ z. Spells form z u []) (same ∙ f.split) q.spelled) in
    sym o.0
