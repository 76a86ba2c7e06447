-- A text has one meaning.
use Rattle.std.proofs.Common.{◌≡◌, refl, sym, ap, ◌∙◌, ℕ, ◌<◌, ◌⊎◌, inl, inr, true, false, List, [], ◌∷◌, get_or, Some, arith, ℤ, pos, negsuc}
use lib.IntN.{neg_ℤ}
use Rattle.std.proofs.lemmas.Bool.{both_ways, and_parts}
use Rattle.std.proofs.lemmas.Int.{ints}
use Rattle.std.proofs.lemmas.Fmt.{signed_decimal_injective}
use Rattle.std.specs.Char.{is_ascii_digit}
use Rattle.std.specs.Str.{all_ascii_digits}
use Rattle.svc_value.specs.declared.inside.Form.TheVariants.{Any, Printed}
use Rattle.svc_value.specs.declared.value.Fault.{Fault}
use Rattle.svc_value.specs.declared.value.Fault.TheVariants.{Overflow, Zero, Long, Number, Empty}
use Rattle.svc_value.specs.declared.value.Value.{Value}
use Rattle.svc_value.specs.declared.value.Value.TheVariants.{Int, Words, Bad}
use Rattle.svc_value.specs.Layout.{IsWithin}
use Rattle.svc_value.specs.Literal.{number_from, IsNumber, IsSigned, IsLiteral}
use Rattle.svc_value.specs.Printed.{between_quotes, printed_value, fault_text}
use Rattle.svc_value.specs.Quoted.{IsQuoted}
use Rattle.svc_value.specs.Reading.{fault_of_letter}
use Rattle.svc_value.proofs.PrintedQuoted.{printed_quoted}
use Rattle.svc_value.proofs.QuotedPlaces.{one_quoted}
use Rattle.svc_value.proofs.LiteralPlaces.{first_of_decimal, fault_first}
use Rattle.svc_value.proofs.LiteralReads.{of_letter}

number_first : (bytes : List ℕ) (n : ℕ) → IsNumber bytes n → is_ascii_digit (get_or bytes 0 0) ≡ true
number_first [] n h = absurd (omega (arith, h.some))
number_first (b ∷ bs) n h = (and_parts (is_ascii_digit b) (all_ascii_digits bs) h.digits).0

one_signed : (bytes : List ℕ) (y z : ℤ) → IsSigned bytes y → IsSigned bytes z → y ≡ z
one_signed bytes y z (inl p) (inl q) = p.2 ∙ ap (λ n. pos n) (sym p.1.spelled ∙ q.1.spelled) ∙ sym q.2
one_signed bytes y z (inl p) (inr q) = absurd (both_ways false refl (ap (λ (l : List ℕ). is_ascii_digit (get_or l 0 0)) (sym q.2) ∙ number_first bytes p.0 p.1))
one_signed bytes y z (inr p) (inl q) = absurd (both_ways false refl (ap (λ (l : List ℕ). is_ascii_digit (get_or l 0 0)) (sym p.2) ∙ number_first bytes q.0 q.1))
one_signed bytes y z (inr p) (inr q) =
    let same : p.1 ≡ q.1 = cc (p.2, q.2) in
    p.4 ∙ ap (λ n. neg_ℤ (pos n)) (sym p.3.spelled ∙ ap (number_from 0) same ∙ q.3.spelled) ∙ sym q.4

number_no_quote : (bytes text : List ℕ) (z : ℤ) → IsSigned bytes z → IsQuoted Any bytes text [] → ⊥
number_no_quote bytes text z (inl p) q = both_ways false refl (ap (λ (l : List ℕ). is_ascii_digit (get_or l 0 0)) (sym q.opening) ∙ number_first bytes p.0 p.1)
number_no_quote bytes text z (inr p) q = absurd (omega (arith, ap (λ (l : List ℕ). get_or l 0 0) (sym q.opening ∙ p.2)))

pub one_literal : (bytes : List ℕ) (a b : Value) → IsLiteral bytes a → IsLiteral bytes b → a ≡ b
one_literal bytes (Int y) (Int z) p q = ap (λ n. Int n) (one_signed bytes y z p.0 q.0)
one_literal bytes (Int y) (Words u) p q = absurd (number_no_quote bytes u y p.0 q)
one_literal bytes (Words t) (Int z) p q = absurd (number_no_quote bytes t z q.0 p)
one_literal bytes (Words t) (Words u) p q = ap (λ w. Words w) (one_quoted Any bytes t u p q)
one_literal bytes (Bad f) b p q = absurd p
one_literal bytes (Int y) (Bad g) p q = absurd q
one_literal bytes (Words t) (Bad g) p q = absurd q

-- the first byte of a whole number's text is a digit or `-`
number_starts : (z : ℤ) (b : ℕ) (bs : List ℕ) → IsWithin (Int z) → b ∷ bs ≡ printed_value (Int z) → (is_ascii_digit b ≡ true) ⊎ (b ≡ 45)
number_starts (pos n) b bs w e = let small : n < 18446744073709551616 = omega (arith, ints, w) in inl (first_of_decimal n b bs small e)
number_starts (negsuc n) b bs w e = inr (ap (λ (l : List ℕ). get_or l 0 0) e)

no_text : (z : ℤ) (t : List ℕ) → IsWithin (Int z) → between_quotes t ≡ printed_value (Int z) → ⊥
no_text z t w e = elim (number_starts z 34 _ w e) [ inl d ↦ both_ways false refl d | inr k ↦ absurd (omega (arith, k)) ]

starts : (z : ℤ) (bs : List ℕ) → IsWithin (Int z) → 33 ∷ bs ≡ printed_value (Int z) → ⊥
starts z bs w e = elim (number_starts z 33 bs w e) [ inl d ↦ both_ways false refl d | inr k ↦ absurd (omega (arith, k)) ]

no_fault : (z : ℤ) (f : Fault) → IsWithin (Int z) → fault_text f ≡ printed_value (Int z) → ⊥
no_fault z Overflow w e = starts z _ w e
no_fault z Zero w e = starts z _ w e
no_fault z Long w e = starts z _ w e
no_fault z Number w e = starts z _ w e
no_fault z Empty w e = starts z _ w e

pub one_printed : (a b : Value) → IsWithin a → IsWithin b → printed_value a ≡ printed_value b → a ≡ b
one_printed (Int y) (Int z) p q e = ap (λ n. Int n) (signed_decimal_injective y z (omega (arith, ints, p)) (omega (arith, ints, q)) e)
one_printed (Int y) (Words u) p q e = absurd (no_text y u p (sym e))
one_printed (Words t) (Int z) p q e = absurd (no_text z t q e)
one_printed (Words t) (Words u) p q e = ap (λ w. Words w) (one_quoted Printed (between_quotes t) t u (printed_quoted (between_quotes t) t p.0 p.1 refl) (printed_quoted (between_quotes t) u q.0 q.1 e))
one_printed (Bad f) (Bad g) p q e =
    let same : Some f ≡ Some g = sym (of_letter f) ∙ ap (λ (l : List ℕ). fault_of_letter (get_or l 1 0)) e ∙ of_letter g in
    let one : f ≡ g = cc in
    ap (λ h. Bad h) one
one_printed (Words t) (Bad g) p q e = absurd (omega (arith, fault_first g 34 _ e))
one_printed (Bad f) (Words u) p q e = absurd (omega (arith, fault_first f 34 _ (sym e)))
one_printed (Int y) (Bad g) p q e = absurd (no_fault y g p (sym e))
one_printed (Bad f) (Int z) p q e = absurd (no_fault z f q e)
