-- What the code reads as a literal is one, and no other tokens are.
use Rattle.std.proofs.Common.{◌≡◌, ℕ, ◌<◌, ◌≤◌, ◌^◌, Bool, true, false, nat_lt, List, [], ◌∷◌, Option, Some, None, refl, ap, subst, IsUtf8}
use Rattle.std.specs.Prelude.{pos, neg_ℤ, nat_le, if◌then◌else◌}
use Rattle.std.proofs.lemmas.Bool.{ltb-true, lt-ltb, leb-true, le-leb}
use Rattle.svc_token.specs.declared.token.Token.{Token}
use Rattle.svc_token.specs.declared.token.Token.TheVariants.{Number, Quoted, Dash}
use Rattle.svc_value.specs.declared.value.Value.{Value}
use Rattle.svc_value.specs.declared.value.Value.TheVariants.{Int, Words}
use Rattle.svc_value.specs.Literal.{IsSomeLiteral}
use Rattle.svc_value.proofs.Meanings.{one_literal as one_literal_text}
use Rattle.document_reading.specs.Grammar.{IsLiteral, whole, negative, quoted}
use Rattle.document_reading.specs.Reading as r
use Rattle.document_reading.proofs.QuotedLemmas.{quoted_utf8}

-- ---- numbers

chosen : (b : Bool) (x v : Value) → (if b then Some x else None) ≡ Some v → (b ≡ true) × (x ≡ v)
chosen true x v h = (refl, (cc))
chosen false x v h = absurd (cc)

whole_sound : (n : ℕ) (v : Value) → r.whole n ≡ Some v → IsLiteral (Number n ∷ []) v
unfolding r.whole
whole_sound n v h = let k = chosen (nat_lt n (2 ^ 63)) (Int (pos n)) v h in subst (IsLiteral (Number n ∷ [])) k.1 (whole (ltb-true n (2 ^ 63) k.0))

negative_sound : (n : ℕ) (v : Value) → r.negative n ≡ Some v → IsLiteral (Dash ∷ Number n ∷ []) v
unfolding r.negative
negative_sound n v h = let k = chosen (nat_le n (2 ^ 63)) (Int (neg_ℤ (pos n))) v h in subst (IsLiteral (Dash ∷ Number n ∷ [])) k.1 (negative (leb-true n (2 ^ 63) k.0))

pub number_sound : (tokens : List Token) (v : Value) → r.literal_value tokens ≡ Some v → IsLiteral tokens v
number_sound (Number n ∷ []) v h = whole_sound n v h
number_sound (Dash ∷ Number n ∷ []) v h = negative_sound n v h
number_sound tokens v h = absurd (cc)

whole_complete : (n : ℕ) → n < 2 ^ 63 → r.whole n ≡ Some (Int (pos n))
unfolding r.whole
whole_complete n h = ap (λ (b : Bool). if b then Some (Int (pos n)) else None) (lt-ltb n (2 ^ 63) h)

negative_complete : (n : ℕ) → n ≤ 2 ^ 63 → r.negative n ≡ Some (Int (neg_ℤ (pos n)))
unfolding r.negative
negative_complete n h = ap (λ (b : Bool). if b then Some (Int (neg_ℤ (pos n))) else None) (le-leb n (2 ^ 63) h)

-- ---- quoted texts

-- bytes that are no UTF-8 are no quoted text
pub no_bytes : (raw : List ℕ) → (IsUtf8 raw → ⊥) → (v : Value) → IsLiteral (Quoted raw ∷ []) v → ⊥
no_bytes raw h v (quoted {text = text} q) = h (quoted_utf8 raw text q)

-- bytes that are no literal are no quoted text
pub no_quoted : (raw : List ℕ) → (IsSomeLiteral raw → ⊥) → (v : Value) → IsLiteral (Quoted raw ∷ []) v → ⊥
no_quoted raw h v (quoted {text = text} q) = h (Words text, q)

-- ---- literals

none_some : (o : Option Value) (v : Value) → o ≡ None → o ≡ Some v → ⊥
none_some o v n h = cc

pub no_literal : (tokens : List Token) → r.quoted_of tokens ≡ None → r.literal_value tokens ≡ None → (v : Value) → IsLiteral tokens v → ⊥
no_literal tokens q n v (whole {n = k} h) = none_some (r.whole k) (Int (pos k)) n (whole_complete k h)
no_literal tokens q n v (negative {n = k} h) = none_some (r.negative k) (Int (neg_ℤ (pos k))) n (negative_complete k h)
no_literal tokens q n v (quoted h) = cc

-- tokens are one literal at most
pub one_literal : {tokens : List Token} {v w : Value} → IsLiteral tokens v → IsLiteral tokens w → v ≡ w
one_literal (whole h) (whole k) = refl
one_literal (negative h) (negative k) = refl
one_literal (quoted {raw = raw} {text = text} h) (quoted {text = other} k) = one_literal_text raw (Words text) (Words other) h k
