-- How far bytes begin a literal, and how far the text of a value.
use Rattle.std.proofs.Common.{◌≡◌, ◌≢◌, refl, sym, ap, subst, ◌∙◌, ℕ, suc, ◌-◌, ◌^◌, ◌<◌, ◌≤◌, ◌⊎◌, inl, inr, Bool, true, false, not, List, [], ◌∷◌, length, get_or, Result, Ok, Err, arith, rules, cond, ℤ, pos, negsuc}
use lib.IntN.{neg_ℤ}
use Rattle.std.proofs.lemmas.Bool.{cases_eq, and_parts, and_from, eqb-true, eqb-false, eq-eqb, ne_eqb, both_ways}
use Rattle.std.proofs.lemmas.Bool.Decides.{nat_tests}
use Rattle.std.proofs.lemmas.Int.{ints}
use Rattle.std.proofs.lemmas.Fmt.{decimal-digits_value, digits_decimal, digits_value-decimal, decimal_nonempty, first_decimal, decimal_digit}
use Rattle.std.proofs.lemmas.Str.Parse.{IsNumeralModel, numerals_by_fold, tells_all_ascii_digits}
use Rattle.std.specs.Char.{is_ascii_digit}
use Rattle.std.specs.Fmt.{decimal}
use Rattle.std.specs.Int.{w64}
use Rattle.std.specs.Prelude.{◌==◌, ◌||◌, FitsSigned}
use Rattle.std.specs.Str.{all_ascii_digits}
use Rattle.svc_value.specs.declared.inside.Form.{Form}
use Rattle.svc_value.specs.declared.inside.Form.TheVariants.{Any, Printed}
use Rattle.svc_value.specs.declared.value.Fault.{Fault}
use Rattle.svc_value.specs.declared.value.Fault.TheVariants.{Overflow, Zero, Long, Number, Empty}
use Rattle.svc_value.specs.declared.value.Value.{Value}
use Rattle.svc_value.specs.declared.value.Value.TheVariants.{Int, Words, Bad}
use Rattle.svc_value.specs.Layout.{IsWithin}
use Rattle.svc_value.specs.Literal.{number_from, IsNumber, IsLiteral, IsSomeLiteral, IsWholeQuoted, IsPrinted, IsSomePrinted}
use Rattle.svc_value.specs.Prefix.{IsRefusedAt}
use Rattle.svc_value.specs.Printed.{printed_value, fault_text}
use Rattle.std.proofs.lemmas.Str.{IsUtf8-nil}
use Rattle.svc_value.specs.Quoted.{IsQuoted, closing}
use Rattle.svc_value.specs.Reading.{number_at, signed_at, with_sign, zero_follows_minus}
use Rattle.svc_value.proofs.Places.{refused_end, refused_next, refused_same, refused_agree, refused_behind}
use Rattle.svc_value.proofs.NumberPlaces.{Digits, number_refused, number_read, from_zero, grows, one_digit}
use Rattle.svc_value.proofs.PrintedQuoted.{quoted_printed, printed_quoted}

-- ---- numbers in decimal digits

own : IsNumeralModel (λ ds. all_ascii_digits ds ≡ true) (number_from 0)
own = numerals_by_fold _ tells_all_ascii_digits number_from (search rules)

some_first : (xs : List ℕ) → 0 < length xs → (b : ℕ) × (bs : List ℕ) × (xs ≡ b ∷ bs)
some_first [] h = absurd (omega arith)
some_first (b ∷ bs) h = (b, bs, refl)

any_digits : (limit n : ℕ) (xs : List ℕ) → IsNumber xs n → n ≤ limit → Digits Any true limit xs
any_digits limit n [] h l = absurd (omega (arith, h.some))
any_digits limit n (b ∷ bs) h l =
    let p = and_parts (is_ascii_digit b) (all_ascii_digits bs) h.digits in
    (and_from _ _ p.0 refl, record { digits = p.1; most = omega (arith, h.spelled, from_zero b bs); zero = tt })

digits_any : (limit : ℕ) (xs : List ℕ) → Digits Any true limit xs → IsNumber xs (number_from 0 xs) × (number_from 0 xs ≤ limit)
digits_any limit [] h = absurd h
digits_any limit (b ∷ bs) h =
    let p = and_parts (is_ascii_digit b) (true || not (b == 48)) h.0 in
    (record { some = omega arith; digits = and_from _ _ p.0 h.1.digits; spelled = refl }, omega (arith, h.1.most, from_zero b bs))

digit_at_least : (b : ℕ) → is_ascii_digit b ≡ true → 48 ≤ b
digit_at_least b e = grind (arith, nat_tests)

decimal_zero : decimal 0 ≡ 48 ∷ []
decimal_zero = decimal_digit 0 (omega arith)

decimal_from : (leads : Bool) (limit n : ℕ) (xs : List ℕ) → xs ≡ decimal n → n ≤ limit → n < 2 ^ 64 → (leads ≡ false → 0 < n) → Digits Printed leads limit xs
decimal_from leads limit n [] e l small some = absurd (omega (arith, ap length e, decimal_nonempty n small))
decimal_from leads limit n (b ∷ bs) e l small some =
    let all : all_ascii_digits (b ∷ bs) ≡ true = ap all_ascii_digits e ∙ digits_decimal own n small in
    let value : number_from 0 (b ∷ bs) ≡ n = ap (number_from 0) e ∙ digits_value-decimal own n small in
    let p = and_parts (is_ascii_digit b) (all_ascii_digits bs) all in
    let least = digit_at_least b p.0 in
    let first : 0 < n → 48 < b = λ h. omega (arith, first_decimal n h small, ap (λ ds. get_or ds 0 0) e) in (
      and_from _ _ p.0 (lead leads some first),
      record {
        digits = p.1;
        most = omega (arith, value, from_zero b bs);
        zero = λ z. elim (cases_eq n 0) [
          | inl k ↦ (let one : b ∷ bs ≡ 48 ∷ [] = e ∙ ap decimal k ∙ decimal_zero in cc)
          | inr k ↦ absurd (omega (arith, first (omega arith)))
        ];
      },
    )
  where
    lead : (t : Bool) → (t ≡ false → 0 < n) → (0 < n → 48 < b) → (t || not (b == 48)) ≡ true
    lead true s f = refl
    lead false s f = ap not (ne_eqb b 48 (λ is. absurd (omega (arith, f (s refl)))))

digits_decimal_of : (leads : Bool) (limit : ℕ) (xs : List ℕ) → limit < 2 ^ 64 → Digits Printed leads limit xs → (xs ≡ decimal (number_from 0 xs)) × (number_from 0 xs ≤ limit) × (leads ≡ false → 0 < number_from 0 xs)
digits_decimal_of leads limit [] small h = absurd h
digits_decimal_of leads limit (b ∷ bs) small h =
    let p = and_parts (is_ascii_digit b) (leads || not (b == 48)) h.0 in
    let least = digit_at_least b p.0 in
    let value : number_from 0 (b ∷ bs) ≤ limit = omega (arith, h.1.most, from_zero b bs) in
    let all : all_ascii_digits (b ∷ bs) ≡ true = and_from _ _ p.0 h.1.digits in
    let alone : get_or (b ∷ bs) 0 0 ≡ 48 → length (b ∷ bs) ≡ 1 = λ is. (let none : bs ≡ [] = h.1.zero (omega arith) in ap (λ r. length (b ∷ r)) none) in
    (sym (decimal-digits_value own (b ∷ bs) all (omega arith) alone (omega arith)), value, λ e. omega (arith, from_zero b bs, grows (b - 48) bs, lead leads e p.1))
  where
    lead : (t : Bool) → t ≡ false → (t || not (b == 48)) ≡ true → b ≢ 48
    lead true e k is = cc
    lead false e k is = absurd (both_ways _ (ap not (eq-eqb b 48 is)) k)

-- ---- literals

minus_no_digit : (xs : List ℕ) → all_ascii_digits (45 ∷ xs) ≡ true → ⊥
minus_no_digit xs e = both_ways false refl e

literal_minus : (xs : List ℕ) → Digits Any true (2 ^ 63) xs → IsSomeLiteral (45 ∷ xs)
literal_minus xs d =
    let n : ℕ = number_from 0 xs in
    let h = digits_any (2 ^ 63) xs d in
    let fits : FitsSigned w64 (neg_ℤ (pos n)) = omega (arith, ints, h.1) in
    (Int (neg_ℤ (pos n)), (inr (n, xs, refl, h.0, refl), fits))

minus_literal : (xs : List ℕ) → IsSomeLiteral (45 ∷ xs) → Digits Any true (2 ^ 63) xs
minus_literal xs k = by k.0 k.1
  where
    by : (v : Value) → IsLiteral (45 ∷ xs) v → Digits Any true (2 ^ 63) xs
    by (Int z) (inl s, fits) = absurd (minus_no_digit xs s.1.digits)
    by (Int z) (inr s, fits) =
        let same : s.1 ≡ xs = cc (s.2) in
        let is : z ≡ neg_ℤ (pos s.0) = s.4 in
        let most : s.0 ≤ 2 ^ 63 = omega (arith, ints, fits, is) in
        subst (Digits Any true (2 ^ 63)) same (any_digits (2 ^ 63) s.0 s.1 s.3 most)
    by (Words t) q = absurd (omega (arith, ap (λ (l : List ℕ). get_or l 0 0) q.opening))
    by (Bad f) q = absurd q

literal_plus : (xs : List ℕ) → Digits Any true (2 ^ 63 - 1) xs → IsSomeLiteral xs
literal_plus xs d =
    let n : ℕ = number_from 0 xs in
    let h = digits_any (2 ^ 63 - 1) xs d in
    let fits : FitsSigned w64 (pos n) = omega (arith, ints, h.1) in
    (Int (pos n), (inl (n, h.0, refl), fits))

plus_literal : (b : ℕ) (xs : List ℕ) → b ≢ 34 → b ≢ 45 → IsSomeLiteral (b ∷ xs) → Digits Any true (2 ^ 63 - 1) (b ∷ xs)
plus_literal b xs m n k = by k.0 k.1
  where
    by : (v : Value) → IsLiteral (b ∷ xs) v → Digits Any true (2 ^ 63 - 1) (b ∷ xs)
    by (Int z) (inl s, fits) =
        let is : z ≡ pos s.0 = s.2 in
        let most : s.0 ≤ 2 ^ 63 - 1 = omega (arith, ints, fits, is) in
        any_digits (2 ^ 63 - 1) s.0 (b ∷ xs) s.1 most
    by (Int z) (inr s, fits) = absurd (n (cc (s.2)))
    by (Words t) q = absurd (m (cc (q.opening)))
    by (Bad f) q = absurd q

nothing_literal : IsSomeLiteral [] → ⊥
nothing_literal k = by k.0 k.1
  where
    by : (v : Value) → IsLiteral [] v → ⊥
    by (Int z) (inl s, fits) = absurd (omega (arith, s.1.some))
    by (Int z) (inr s, fits) = cc (s.2)
    by (Words t) q = cc (q.opening)
    by (Bad f) q = q

-- ---- texts of values

pub first_of_decimal : (n b : ℕ) (xs : List ℕ) → n < 2 ^ 64 → b ∷ xs ≡ decimal n → is_ascii_digit b ≡ true
first_of_decimal n b xs small e = (and_parts (is_ascii_digit b) (all_ascii_digits xs) (ap all_ascii_digits e ∙ digits_decimal own n small)).0

printed_minus : (xs : List ℕ) → Digits Printed false (2 ^ 63) xs → IsSomePrinted (45 ∷ xs)
printed_minus xs d =
    let h = digits_decimal_of false (2 ^ 63) xs (omega arith) d in
    let n : ℕ = number_from 0 xs in
    let some : 0 < n = h.2 refl in
    let back : n ≡ suc (n - 1) = omega arith in
    let fits : FitsSigned w64 (negsuc (n - 1)) = omega (arith, ints, h.1) in
    (Int (negsuc (n - 1)), record { within = fits; text = ap (λ ds. 45 ∷ ds) (h.0 ∙ ap decimal back) })

pub fault_first : (f : Fault) (b : ℕ) (xs : List ℕ) → b ∷ xs ≡ fault_text f → b ≡ 33
fault_first Overflow b xs e = ap (λ (l : List ℕ). get_or l 0 0) e
fault_first Zero b xs e = ap (λ (l : List ℕ). get_or l 0 0) e
fault_first Long b xs e = ap (λ (l : List ℕ). get_or l 0 0) e
fault_first Number b xs e = ap (λ (l : List ℕ). get_or l 0 0) e
fault_first Empty b xs e = ap (λ (l : List ℕ). get_or l 0 0) e

minus_printed : (xs : List ℕ) → IsSomePrinted (45 ∷ xs) → Digits Printed false (2 ^ 63) xs
minus_printed xs k = by k.0 k.1.within k.1.text
  where
    by : (v : Value) → IsWithin v → 45 ∷ xs ≡ printed_value v → Digits Printed false (2 ^ 63) xs
    by (Int (pos n)) w e = let small : n < 2 ^ 64 = omega (arith, ints, w) in absurd (both_ways false refl (first_of_decimal n 45 xs small e))
    by (Int (negsuc n)) w e =
        let most : suc n ≤ 2 ^ 63 = omega (arith, ints, w) in
        decimal_from false (2 ^ 63) (suc n) xs (cc) most (omega arith) (λ _. omega arith)
    by (Words t) w e = absurd (omega (arith, ap (λ (l : List ℕ). get_or l 0 0) e))
    by (Bad f) w e = absurd (omega (arith, fault_first f 45 xs e))

printed_plus : (xs : List ℕ) → Digits Printed true (2 ^ 63 - 1) xs → IsSomePrinted xs
printed_plus xs d =
    let h = digits_decimal_of true (2 ^ 63 - 1) xs (omega arith) d in
    let n : ℕ = number_from 0 xs in
    let fits : FitsSigned w64 (pos n) = omega (arith, ints, h.1) in
    (Int (pos n), record { within = fits; text = h.0 })

plus_printed : (b : ℕ) (xs : List ℕ) → b ≢ 34 → b ≢ 33 → b ≢ 45 → IsSomePrinted (b ∷ xs) → Digits Printed true (2 ^ 63 - 1) (b ∷ xs)
plus_printed b xs m f n k = by k.0 k.1.within k.1.text
  where
    by : (v : Value) → IsWithin v → b ∷ xs ≡ printed_value v → Digits Printed true (2 ^ 63 - 1) (b ∷ xs)
    by (Int (pos z)) w e =
        let most : z ≤ 2 ^ 63 - 1 = omega (arith, ints, w) in
        decimal_from true (2 ^ 63 - 1) z (b ∷ xs) e most (omega arith) (λ t. absurd (cc))
    by (Int (negsuc z)) w e = absurd (n (ap (λ (l : List ℕ). get_or l 0 0) e))
    by (Words t) w e = absurd (m (ap (λ (l : List ℕ). get_or l 0 0) e))
    by (Bad g) w e = absurd (f (fault_first g b xs e))

nothing_printed : IsSomePrinted [] → ⊥
nothing_printed k = by k.0 k.1.within k.1.text
  where
    by : (v : Value) → IsWithin v → [] ≡ printed_value v → ⊥
    by (Int (pos z)) w e = let small : z < 2 ^ 64 = omega (arith, ints, w) in absurd (omega (arith, ap length e, decimal_nonempty z small))
    by (Int (negsuc z)) w e = cc
    by (Words t) w e = cc
    by (Bad Overflow) w e = cc
    by (Bad Zero) w e = cc
    by (Bad Long) w e = cc
    by (Bad Number) w e = cc
    by (Bad Empty) w e = cc

-- ---- signed numbers

unsigned_err : (sign : ℕ → ℤ) (r : Result ℕ ℕ) (p : ℕ) → with_sign sign r ≡ Err p → r ≡ Err p
unsigned_err sign (Ok n) p e = absurd (cc)
unsigned_err sign (Err q) p e = ap (λ n. Err n) (let k : q ≡ p = cc in k)

unsigned_ok : (sign : ℕ → ℤ) (r : Result ℕ ℕ) (z : ℤ) → with_sign sign r ≡ Ok z → (n : ℕ) × (r ≡ Ok n) × (z ≡ sign n)
unsigned_ok sign (Ok n) z e = (n, refl, let k : sign n ≡ z = cc in sym k)
unsigned_ok sign (Err q) z e = absurd (cc)

module _ (form : Form) (N : List ℕ → Type 0) (minus_to : (xs : List ℕ) → Digits form (zero_follows_minus form) (2 ^ 63) xs → N (45 ∷ xs)) (minus_from : (xs : List ℕ) → N (45 ∷ xs) → Digits form (zero_follows_minus form) (2 ^ 63) xs)
    (plus_to : (xs : List ℕ) → Digits form true (2 ^ 63 - 1) xs → N xs) (empty : ¬ (N [])) where
  signed_refused : (bs : List ℕ) (p : ℕ) → ((b : ℕ) (cs xs : List ℕ) → bs ≡ b ∷ cs → b ≢ 45 → N (b ∷ xs) → Digits form true (2 ^ 63 - 1) (b ∷ xs)) → signed_at form bs ≡ Err p → IsRefusedAt N bs p
  signed_refused [] p from e =
      let zero : 0 ≡ p = cc in
      subst (IsRefusedAt N []) zero (refused_end N (49 ∷ []) (plus_to (49 ∷ []) (one_digit form true (2 ^ 63 - 1) (omega arith))) empty)
  signed_refused (b ∷ bs) p from e = by (b == 45) refl e
    where
      by : (t : Bool) → (b == 45) ≡ t → cond t (with_sign (λ n. neg_ℤ (pos n)) (number_at form (zero_follows_minus form) (2 ^ 63) 1 bs)) (with_sign pos (number_at form true (2 ^ 63 - 1) 0 (b ∷ bs))) ≡ Err p → IsRefusedAt N (b ∷ bs) p
      by true t k =
          let is : b ≡ 45 = eqb-true b 45 t in
          let r = number_refused form (zero_follows_minus form) (2 ^ 63) 1 bs p (omega arith) (unsigned_err _ _ p k) in
          let place : suc r.place ≡ p = omega (arith, r.sum) in
          subst (IsRefusedAt N (b ∷ bs)) place (refused_next N b bs r.place (refused_same (Digits form (zero_follows_minus form) (2 ^ 63)) (λ xs. N (b ∷ xs)) bs r.place
          (λ xs d. subst (λ c. N (c ∷ xs)) (sym is) (minus_to xs d)) (λ xs m. minus_from xs (subst (λ c. N (c ∷ xs)) is m)) r.is))
      by false t k =
          let r = number_refused form true (2 ^ 63 - 1) 0 (b ∷ bs) p (omega arith) (unsigned_err _ _ p k) in
          let place : r.place ≡ p = omega (arith, r.sum) in
          subst (IsRefusedAt N (b ∷ bs)) place (refused_behind (Digits form true (2 ^ 63 - 1)) N b bs (49 ∷ []) r.place (plus_to (49 ∷ []) (one_digit form true (2 ^ 63 - 1) (omega arith)))
          (λ xs d. plus_to (b ∷ xs) d) (λ xs m. from b bs xs refl (eqb-false b 45 t) m) r.is)

-- what a signed number that was read is
signed_read : (form : Form) (bs : List ℕ) (z : ℤ) → signed_at form bs ≡ Ok z
    → ((xs : List ℕ) × (bs ≡ 45 ∷ xs) × Digits form (zero_follows_minus form) (2 ^ 63) xs × (z ≡ neg_ℤ (pos (number_from 0 xs)))) ⊎ (Digits form true (2 ^ 63 - 1) bs × (z ≡ pos (number_from 0 bs)))
signed_read form [] z e = absurd (cc)
signed_read form (b ∷ bs) z e = by (b == 45) refl e
  where
    by : (t : Bool) → (b == 45) ≡ t → cond t (with_sign (λ n. neg_ℤ (pos n)) (number_at form (zero_follows_minus form) (2 ^ 63) 1 bs)) (with_sign pos (number_at form true (2 ^ 63 - 1) 0 (b ∷ bs))) ≡ Ok z
        → ((xs : List ℕ) × (b ∷ bs ≡ 45 ∷ xs) × Digits form (zero_follows_minus form) (2 ^ 63) xs × (z ≡ neg_ℤ (pos (number_from 0 xs)))) ⊎ (Digits form true (2 ^ 63 - 1) (b ∷ bs) × (z ≡ pos (number_from 0 (b ∷ bs))))
    by true t k =
        let n = unsigned_ok _ _ z k in
        let r = number_read form (zero_follows_minus form) (2 ^ 63) 1 bs n.0 (omega arith) n.1 in
        inl (bs, ap (λ c. c ∷ bs) (eqb-true b 45 t), r.digits, n.2 ∙ ap (λ m. neg_ℤ (pos m)) (sym r.spelled))
    by false t k =
        let n = unsigned_ok _ _ z k in
        let r = number_read form true (2 ^ 63 - 1) 0 (b ∷ bs) n.0 (omega arith) n.1 in
        inr (r.digits, n.2 ∙ ap (λ m. pos m) (sym r.spelled))

-- ---- what the readers of numbers answer

pub literal_number_refused : (text : List ℕ) (p : ℕ) → get_or text 0 0 ≢ 34 → signed_at Any text ≡ Err p → IsRefusedAt IsSomeLiteral text p
literal_number_refused text p other e =
    signed_refused Any IsSomeLiteral literal_minus minus_literal literal_plus nothing_literal text p
    (λ b cs xs is n m. plus_literal b xs (λ q. other (ap (λ (l : List ℕ). get_or l 0 0) is ∙ q)) n m) e

pub literal_number_read : (text : List ℕ) (z : ℤ) → signed_at Any text ≡ Ok z → IsLiteral text (Int z)
literal_number_read text z e = by (signed_read Any text z e)
  where
    by : ((xs : List ℕ) × (text ≡ 45 ∷ xs) × Digits Any true (2 ^ 63) xs × (z ≡ neg_ℤ (pos (number_from 0 xs)))) ⊎ (Digits Any true (2 ^ 63 - 1) text × (z ≡ pos (number_from 0 text))) → IsLiteral text (Int z)
    by (inl s) =
        let h = digits_any (2 ^ 63) s.0 s.2 in
        let is : z ≡ neg_ℤ (pos (number_from 0 s.0)) = s.3 in
        (inr (number_from 0 s.0, s.0, s.1, h.0, s.3), omega (arith, ints, h.1, is))
    by (inr s) =
        let h = digits_any (2 ^ 63 - 1) text s.0 in
        let is : z ≡ pos (number_from 0 text) = s.1 in
        (inl (number_from 0 text, h.0, s.1), omega (arith, ints, h.1, is))

pub printed_number_refused : (text : List ℕ) (p : ℕ) → get_or text 0 0 ≢ 34 → get_or text 0 0 ≢ 33 → signed_at Printed text ≡ Err p → IsRefusedAt IsSomePrinted text p
printed_number_refused text p other mark e =
    signed_refused Printed IsSomePrinted printed_minus minus_printed printed_plus nothing_printed text p
    (λ b cs xs is n m. plus_printed b xs (λ q. other (ap (λ (l : List ℕ). get_or l 0 0) is ∙ q)) (λ q. mark (ap (λ (l : List ℕ). get_or l 0 0) is ∙ q)) n m) e

pub printed_number_read : (text : List ℕ) (z : ℤ) → signed_at Printed text ≡ Ok z → IsPrinted text (Int z)
printed_number_read text z e = by (signed_read Printed text z e)
  where
    by : ((xs : List ℕ) × (text ≡ 45 ∷ xs) × Digits Printed false (2 ^ 63) xs × (z ≡ neg_ℤ (pos (number_from 0 xs)))) ⊎ (Digits Printed true (2 ^ 63 - 1) text × (z ≡ pos (number_from 0 text))) → IsPrinted text (Int z)
    by (inl s) =
        let h = digits_decimal_of false (2 ^ 63) s.0 (omega arith) s.2 in
        let n : ℕ = number_from 0 s.0 in
        let some : 0 < n = h.2 refl in
        let is : z ≡ neg_ℤ (pos n) = s.3 in
        let negative : z ≡ negsuc (n - 1) = omega (arith, ints, is) in
        let back : n ≡ suc (n - 1) = omega arith in
        subst (λ y. IsPrinted text (Int y)) (sym negative) (record { within = omega (arith, ints, h.1); text = s.1 ∙ ap (λ ds. 45 ∷ ds) (h.0 ∙ ap decimal back) })
    by (inr s) =
        let h = digits_decimal_of true (2 ^ 63 - 1) text (omega arith) s.0 in
        subst (λ y. IsPrinted text (Int y)) (sym s.1) (record { within = omega (arith, ints, h.1); text = h.0 })

-- ---- quoted texts among them

pub literal_quoted_refused : (text : List ℕ) (p : ℕ) → 0 < length text → get_or text 0 0 ≡ 34 → IsRefusedAt (IsWholeQuoted Any) text p → IsRefusedAt IsSomeLiteral text p
literal_quoted_refused [] p some is r = absurd (omega arith)
literal_quoted_refused (b ∷ bs) p some is r =
    refused_agree (IsWholeQuoted Any) IsSomeLiteral (b ∷ []) bs (34 ∷ []) p
    ([], record { inside = 34 ∷ []; opening = ap (λ c. c ∷ 34 ∷ []) is; spelled = closing; most = omega arith; utf8 = IsUtf8-nil })
    (λ xs k. (Words k.0, k.1)) (λ xs k. back xs k.0 k.1) r
  where
    back : (xs : List ℕ) (v : Value) → IsLiteral (b ∷ xs) v → IsWholeQuoted Any (b ∷ xs)
    back xs (Int z) (inl s, fits) = let p = and_parts (is_ascii_digit b) (all_ascii_digits xs) s.1.digits in absurd (both_ways false refl (ap is_ascii_digit (sym is) ∙ p.0))
    back xs (Int z) (inr s, fits) = absurd (omega (arith, is, ap (λ (l : List ℕ). get_or l 0 0) s.2))
    back xs (Words t) q = (t, q)
    back xs (Bad f) q = absurd q

pub printed_quoted_refused : (text : List ℕ) (p : ℕ) → 0 < length text → get_or text 0 0 ≡ 34 → IsRefusedAt (IsWholeQuoted Printed) text p → IsRefusedAt IsSomePrinted text p
printed_quoted_refused [] p some is r = absurd (omega arith)
printed_quoted_refused (b ∷ bs) p some is r =
    refused_agree (IsWholeQuoted Printed) IsSomePrinted (b ∷ []) bs (34 ∷ []) p
    ([], record { inside = 34 ∷ []; opening = ap (λ c. c ∷ 34 ∷ []) is; spelled = closing; most = omega arith; utf8 = IsUtf8-nil })
    (λ xs k. (Words k.0, record { within = (k.1.most, k.1.utf8); text = quoted_printed (b ∷ xs) k.0 k.1 })) (λ xs k. back xs k.0 k.1.within k.1.text) r
  where
    back : (xs : List ℕ) (v : Value) → IsWithin v → b ∷ xs ≡ printed_value v → IsWholeQuoted Printed (b ∷ xs)
    back xs (Int (pos n)) w e = let small : n < 2 ^ 64 = omega (arith, ints, w) in absurd (both_ways false refl (ap is_ascii_digit (sym is) ∙ first_of_decimal n b xs small e))
    back xs (Int (negsuc n)) w e = absurd (omega (arith, is, ap (λ (l : List ℕ). get_or l 0 0) e))
    back xs (Words t) w e = (t, printed_quoted (b ∷ xs) t w.0 w.1 e)
    back xs (Bad f) w e = absurd (omega (arith, is, fault_first f b xs e))

pub printed_words : (text t : List ℕ) → IsQuoted Printed text t [] → IsPrinted text (Words t)
printed_words text t q = record { within = (q.most, q.utf8); text = quoted_printed text t q }
