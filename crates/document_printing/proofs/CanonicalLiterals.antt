-- A printed value is a literal.
use Rattle.std.proofs.Common.{◌≡◌, ℕ, suc, ◌+◌, ◌*◌, ◌<◌, ◌≤◌, Bool, true, false, List, [], ◌∷◌, ◌++◌, length, Some, None, refl, sym, ap, subst, ◌∙◌, arith, cond, append_assoc, flat_map}
use Rattle.std.proofs.lemmas.Bool.Decides.{nat_tests}
use Rattle.std.specs.Prelude.{◌&&◌, not, pos, negsuc, nat_lt}
use Rattle.std.specs.Char.{digit_value}
use Rattle.std.specs.Str.{IsUtf8}
use Rattle.svc_expr.specs.Tree.{number, words}
use Rattle.svc_expr.specs.Canonical.{canonical_text}
use Rattle.svc_expr.proofs.Spelled.{canon}
use Rattle.svc_expr.proofs.Written.{written}
use Rattle.svc_graph.specs.Accepting.{IsProper}
use Rattle.svc_token.specs.declared.token.Token.{Token}
use Rattle.svc_token.specs.declared.token.Token.TheVariants.{Number, Quoted, Dash}
use Rattle.svc_token.specs.Cutting.{Cuts}
use Rattle.svc_value.specs.declared.value.Value.{Value}
use Rattle.svc_value.specs.declared.value.Value.TheVariants.{Int, Words, Bad}
use Rattle.svc_value.specs.Layout.{IsWithin}
use Rattle.svc_value.specs.Literal.{IsLiteral as IsLiteralText}
use Rattle.svc_value.specs.Printed.{is_escaped, quoted_byte, between_quotes, printed_value}
use Rattle.svc_value.specs.Quoted.{any_form, is_itself, Spells, closing, itself, short, hex}
use Rattle.svc_value.proofs.PrintedQuoted.{Shown, as_itself, as_short, as_hex, shown}
use Rattle.document_reading.specs.Grammar.{IsLiteral, whole, negative, quoted as is_quoted}

-- ---- a printed text is a quoted text

itself_any : (b : ℕ) → not (is_escaped b) ≡ true → is_itself any_form b ≡ true
itself_any b h = grind (arith, nat_tests)

hex_chosen : (p q r : Bool) (byte d : ℕ) → cond (p && q && r) (Some byte) None ≡ Some d → cond (p && q && true) (Some byte) None ≡ Some d
hex_chosen true true true byte d h = h
hex_chosen true true false byte d h = absurd (cc)
hex_chosen true false r byte d h = absurd (cc)
hex_chosen false q r byte d h = absurd (cc)

text_spells : (t rest : List ℕ) → Spells any_form (flat_map quoted_byte t ++ 34 ∷ rest) t rest
text_spells [] rest = closing
text_spells (b ∷ t) rest = by (shown b) (text_spells t rest)
  where
    behind : List ℕ
    behind = flat_map quoted_byte t ++ 34 ∷ rest

    moved : (bytes : List ℕ) → quoted_byte b ≡ bytes → Spells any_form (bytes ++ behind) (b ∷ t) rest → Spells any_form ((quoted_byte b ++ flat_map quoted_byte t) ++ 34 ∷ rest) (b ∷ t) rest
    moved bytes e s = subst (λ z. Spells any_form z (b ∷ t) rest) (ap (λ z. z ++ behind) (sym e) ∙ sym (append_assoc (quoted_byte b) (flat_map quoted_byte t) (34 ∷ rest))) s

    by : Shown b → Spells any_form behind t rest → Spells any_form ((quoted_byte b ++ flat_map quoted_byte t) ++ 34 ∷ rest) (b ∷ t) rest
    by (as_itself h e) s = moved (b ∷ []) e (itself (itself_any b h) s)
    by (as_short c h e) s = moved (92 ∷ c ∷ []) e (short h s)
    by (as_hex high low h e) s = moved (92 ∷ 120 ∷ high ∷ low ∷ []) e (hex (hex_chosen (nat_lt (digit_value high) 8) (nat_lt (digit_value low) 16) _ (digit_value high * 16 + digit_value low) b h) s)

pub quoted_literal : (text : List ℕ) → length text ≤ 256 → IsUtf8 text → IsLiteralText (between_quotes text) (Words text)
quoted_literal text most utf8 = record { inside = flat_map quoted_byte text ++ 34 ∷ []; opening = refl; spelled = text_spells text []; most = most; utf8 = utf8 }

-- ---- values

-- the tokens of a printed value
abbrev pub IsSaid : Value → Type 0
IsSaid value = (tokens : List Token) × Cuts (printed_value value) tokens × IsLiteral tokens value

pub value_said : (value : Value) → IsProper value → IsWithin value → IsSaid value
unfolding canon canonical_text
value_said (Int (pos n)) proper within =
    let fits : n < 9223372036854775808 = omega (arith, within.sfits) in
    (Number n ∷ [], written [] (number (pos n)) (λ k l. absurd (omega arith)) (omega (arith, fits)), whole (omega (arith, fits)))
value_said (Int (negsuc n)) proper within =
    let fits : n < 9223372036854775808 = omega (arith, within.sfits) in
    (Dash ∷ Number (suc n) ∷ [], written [] (number (negsuc n)) (λ k l. absurd (omega arith)) (omega (arith, fits)), negative {n = suc n} (omega (arith, fits)))
value_said (Words text) proper within =
    (Quoted (between_quotes text) ∷ [], written [] (words text) (λ k l. absurd (omega arith)) within, is_quoted (quoted_literal text within.0 within.1))
value_said (Bad fault) proper within = absurd proper
