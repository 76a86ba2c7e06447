-- Going over the bytes of a quoted text.
use Rattle.std.proofs.Common.{◌≡◌, ℕ, ◌≤◌, Bool, true, false, cond, ◌&&◌, List, ◌++◌, length, Option, Some, None, refl, sym, ap, subst}
use Rattle.std.specs.Prelude.{nat_le, option_map, option_and_then}
use Rattle.std.proofs.lemmas.Bool.{le-leb, leb-true, and_from, and_parts, and_right, false_from_ne_true}
use Rattle.std.proofs.lemmas.Str.{IsUtf8-from_is_utf8, is_utf8-from_IsUtf8}
use Rattle.std.specs.Str.{IsUtf8, is_utf8}
use Rattle.svc_expr.specs.Quoted.{text_if}

abbrev pub Text : Type 0
Text = Option (List ℕ)

-- the meaning behind a front
abbrev pub behind : List ℕ → Text → Text
behind front meaning = option_map (λ text. front ++ text) meaning

pub is_text : (bytes : List ℕ) → length bytes ≤ 256 → IsUtf8 bytes → Some bytes ≡ text_if bytes
is_text bytes h u = sym (ap (λ (b : Bool). cond b (Some bytes) None) (and_from (nat_le (length bytes) 256) (is_utf8 bytes) (le-leb (length bytes) 256 h) (is_utf8-from_IsUtf8 bytes u)))

pub is_no_text : (bytes : List ℕ) → (IsUtf8 bytes → ⊥) → None ≡ text_if bytes
is_no_text bytes h =
    sym (ap (λ (b : Bool). cond b (Some bytes) None) (and_right (nat_le (length bytes) 256) (is_utf8 bytes) (false_from_ne_true (is_utf8 bytes) (λ t. h (IsUtf8-from_is_utf8 bytes t)))))

-- what passes as a text is one
kept : (b : Bool) (bytes text : List ℕ) → cond b (Some bytes) None ≡ Some text → (b ≡ true) × (bytes ≡ text)
kept true bytes text h = (refl, cc)
kept false bytes text h = absurd (cc)

pub is_some_text : (made : Text) (text : List ℕ) → option_and_then text_if made ≡ Some text → (made ≡ Some text) × (length text ≤ 256) × IsUtf8 text
is_some_text None text h = absurd (cc)
is_some_text (Some bytes) text h =
    let k = kept (nat_le (length bytes) 256 && is_utf8 bytes) bytes text h in
    let p = and_parts (nat_le (length bytes) 256) (is_utf8 bytes) k.0 in
    (ap (λ (t : List ℕ). Some t) k.1, subst (λ (t : List ℕ). length t ≤ 256) k.1 (leb-true (length bytes) 256 p.0), subst IsUtf8 k.1 (IsUtf8-from_is_utf8 bytes p.1))
