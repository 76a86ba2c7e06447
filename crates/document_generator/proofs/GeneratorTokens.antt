-- The numbers and the names of generated lines are tokens of their own.
use Rattle.std.proofs.Common.{◌≡◌, ℕ, zero, suc, ◌+◌, ◌-◌, ◌*◌, ◌/◌, ◌%◌, ◌≤◌, ◌<◌, ◌^◌, min, Bool, true, false, cond, List, [], ◌∷◌, ◌++◌, length, drop, Option, Some, None, refl, sym, ap, subst, ◌∙◌, arith}
use Rattle.std.specs.Prelude.{◌||◌, ◌&&◌, ◌==◌, decimal, nat_lt}
use Rattle.std.specs.List.{take_while, list_all}
use Rattle.std.proofs.lemmas.Fmt.{decimal_by_steps, length-decimal-le}
use Rattle.std.proofs.lemmas.Bool.{le-leb, and_parts}
use Rattle.std.proofs.lemmas.Bool.Decides.{nat_tests}
use Rattle.std.proofs.lemmas.List.{append-nil}
use Rattle.std.proofs.lemmas.List.Sums.{take_while-cons}
use Rattle.std.specs.Char.{is_ascii_digit, is_ascii_alphabetic}
use Rattle.svc_token.specs.declared.keyword.Keyword.{Keyword}
use Rattle.svc_token.specs.declared.token.Token.{Token}
use Rattle.svc_token.specs.declared.token.Token.TheVariants.{Name, Long, Number}
use Rattle.svc_token.specs.Word.{is_word_byte, IsName, number_from}
use Rattle.svc_token.specs.Keyword.{keyword_of}
use Rattle.svc_token.specs.Cutting.{begins, Front, word_or, word_token, number_at, quoted_at, mark_at, front, Cuts, ends, token}
use Rattle.document_generator.specs.Generator.{number_text, input_name, derived_name, service_name}

-- ---- bytes in front

while_on : (p : ℕ → Bool) (b : ℕ) (bs : List ℕ) → p b ≡ true → take_while p (b ∷ bs) ≡ b ∷ take_while p bs
while_on p b bs h = take_while-cons p b bs ∙ ap (λ (q : Bool). cond q (b ∷ take_while p bs) []) h

while_off : (p : ℕ → Bool) (bs : List ℕ) → begins p bs ≡ false → take_while p bs ≡ []
while_off p [] h = refl
while_off p (b ∷ bs) h = take_while-cons p b bs ∙ ap (λ (q : Bool). cond q (b ∷ take_while p bs) []) h

take_all_of : (p : ℕ → Bool) (xs rest : List ℕ) → list_all p xs ≡ true → begins p rest ≡ false → take_while p (xs ++ rest) ≡ xs
take_all_of p [] rest h g = while_off p rest g
take_all_of p (x ∷ xs) rest h g =
    let k = and_parts (p x) (list_all p xs) h in
    while_on p x (xs ++ rest) k.0 ∙ ap (λ (l : List ℕ). x ∷ l) (take_all_of p xs rest k.1 g)

drop_front : (xs ys : List ℕ) → drop (length xs) (xs ++ ys) ≡ ys
drop_front [] ys = refl
drop_front (x ∷ xs) ys = drop_front xs ys

fronted : (bytes rest : List ℕ) (t : Token) (ts : List Token) → front (bytes ++ rest) ≡ Some (t, length bytes) → Cuts rest ts → Cuts (bytes ++ rest) (t ∷ ts)
fronted bytes rest t ts h s = token h (subst (λ (l : List ℕ). Cuts l ts) (sym (drop_front bytes rest)) s)

-- ---- decimal digits

list_all-push : (p : ℕ → Bool) (xs : List ℕ) (x : ℕ) → list_all p xs ≡ true → p x ≡ true → list_all p (xs ++ x ∷ []) ≡ true
list_all-push p [] x h g = ap (λ (b : Bool). b && true) g
list_all-push p (y ∷ xs) x h g = let k = and_parts (p y) (list_all p xs) h in ap (λ (b : Bool). b && list_all p (xs ++ x ∷ [])) k.0 ∙ list_all-push p xs x k.1 g

value_push : (v : ℕ) (ds : List ℕ) (d : ℕ) → number_from v (ds ++ d ∷ []) ≡ number_from v ds * 10 + (d - 48)
value_push v [] d = refl
value_push v (x ∷ ds) d = value_push (v * 10 + (x - 48)) ds d

-- the first of the digits, and the others
record FirstDigit (ds : List ℕ) : Type 0 where
  first : ℕ
  others : List ℕ
  below : first < 10
  is : ds ≡ (48 + first) ∷ others

-- the digits of a number, read again
record Decimal (n : ℕ) (ds : List ℕ) : Type 0 where
  value : number_from 0 ds ≡ n
  digits : list_all is_ascii_digit ds ≡ true
  some : FirstDigit ds

digit_is : (n : ℕ) → n < 10 → is_ascii_digit (48 + n) ≡ true
digit_is n h = grind (arith, nat_tests)

one_digit : (n : ℕ) → n < 10 → Decimal n ((48 + n) ∷ [])
one_digit n h = record {
  value = omega arith;
  digits = ap (λ (b : Bool). b && true) (digit_is n h);
  some = record { first = n; others = []; below = h; is = refl };
}

more_digits : (n : ℕ) (ds : List ℕ) → 10 ≤ n → Decimal (n / 10) ds → Decimal n (ds ++ ((48 + n % 10) ∷ []))
more_digits n ds h d = record {
  value = omega (arith, value_push 0 ds (48 + n % 10), d.value);
  digits = list_all-push is_ascii_digit ds (48 + n % 10) d.digits (digit_is (n % 10) (omega arith));
  some = record { first = d.some.first; others = d.some.others ++ ((48 + n % 10) ∷ []); below = d.some.below; is = ap (λ (l : List ℕ). l ++ ((48 + n % 10) ∷ [])) d.some.is };
}

decimal_is : (n : ℕ) → n < 2 ^ 64 → Decimal n (decimal n)
decimal_is = decimal_by_steps Decimal one_digit more_digits

-- ---- numbers

no_letter : (d : ℕ) → is_ascii_digit d ≡ true → is_ascii_alphabetic d ≡ false
no_letter d h = grind (arith, nat_tests)

middle : (p q r : Bool) → (p || q || r) ≡ false → q ≡ false
middle true q r h = absurd (cc)
middle false true r h = absurd (cc)
middle false false r h = refl

no_word : (rest : List ℕ) → begins is_word_byte rest ≡ false → begins is_ascii_digit rest ≡ false
no_word [] h = refl
no_word (b ∷ bs) h = middle (is_ascii_alphabetic b) (is_ascii_digit b) (b == 95) h

-- what the other bytes begin
abbrev other_front : ℕ → List ℕ → Front
other_front b rest = cond (b == 34) (quoted_at (b ∷ rest)) (mark_at b rest)

abbrev word_front : List ℕ → Front
word_front word = Some (word_token word, length word)

digits_front : (d : ℕ) (ds rest : List ℕ) → list_all is_ascii_digit (d ∷ ds) ≡ true → number_from 0 (d ∷ ds) < 2 ^ 63 → begins is_word_byte rest ≡ false
    → front (d ∷ ds ++ rest) ≡ Some (Number (number_from 0 (d ∷ ds)), length (d ∷ ds))
unfolding front number_at
digits_front d ds rest h m g =
    let all = d ∷ (ds ++ rest) in
    let k = and_parts (is_ascii_digit d) (list_all is_ascii_digit ds) h in
    let small : min (number_from 0 (d ∷ ds)) 18446744073709551615 ≡ number_from 0 (d ∷ ds) = omega arith in
    ap (λ (q : Bool). cond q (word_front (take_while is_word_byte all)) (cond (is_ascii_digit d) (number_at (take_while is_ascii_digit all) all) (other_front d (ds ++ rest)))) (no_letter d k.0)
    ∙ ap (λ (q : Bool). cond q (number_at (take_while is_ascii_digit all) all) (other_front d (ds ++ rest))) k.0
    ∙ ap (λ (l : List ℕ). number_at l all) (take_all_of is_ascii_digit (d ∷ ds) rest h (no_word rest g))
    ∙ ap (λ (l : List ℕ). cond (begins is_word_byte l) None (Some (Number (min (number_from 0 (d ∷ ds)) 18446744073709551615), length (d ∷ ds)))) (drop_front (d ∷ ds) rest)
    ∙ ap (λ (q : Bool). cond q None (Some (Number (min (number_from 0 (d ∷ ds)) 18446744073709551615), length (d ∷ ds)))) g
    ∙ ap (λ (n : ℕ). Some (Number n, length (d ∷ ds))) small

digits_cut : (n : ℕ) (ds rest : List ℕ) (ts : List Token) → Decimal n ds → n < 2 ^ 63 → begins is_word_byte rest ≡ false → Cuts rest ts → Cuts (ds ++ rest) (Number n ∷ ts)
digits_cut n [] rest ts d h g s = let e = d.some.is in absurd (cc)
digits_cut n (x ∷ ds) rest ts d h g s =
    let v = d.value in
    fronted (x ∷ ds) rest (Number n) ts (digits_front x ds rest d.digits (omega arith) g ∙ ap (λ (v : ℕ). Some (Number v, length (x ∷ ds))) d.value) s

-- a number, and behind it what begins no word
pub number_cut : (n : ℕ) (rest : List ℕ) (ts : List Token) → n < 2 ^ 63 → begins is_word_byte rest ≡ false → Cuts rest ts → Cuts (number_text n ++ rest) (Number n ∷ ts)
unfolding number_text
number_cut n rest ts h g s = digits_cut n (decimal n) rest ts (decimal_is n (omega arith)) h g s

-- a number at the end of a line
pub last_number : (n : ℕ) → n < 2 ^ 63 → Cuts (number_text n) (Number n ∷ [])
last_number n h = subst (λ (l : List ℕ). Cuts l (Number n ∷ [])) (append-nil (number_text n)) (number_cut n [] [] h refl ends)

-- ---- names

digits_are_word : (ds : List ℕ) → list_all is_ascii_digit ds ≡ true → list_all is_word_byte ds ≡ true
digits_are_word [] h = refl
digits_are_word (d ∷ ds) h =
    let k = and_parts (is_ascii_digit d) (list_all is_ascii_digit ds) h in
    let first : is_word_byte d ≡ true = grind (arith, nat_tests, k.0) in
    ap (λ (b : Bool). b && list_all is_word_byte ds) first ∙ digits_are_word ds k.1

input_free : (d : ℕ) (ds : List ℕ) → d < 10 → keyword_of (105 ∷ (48 + d) ∷ ds) ≡ None
unfolding keyword_of
input_free zero ds h = refl
input_free (suc zero) ds h = refl
input_free (suc (suc zero)) ds h = refl
input_free (suc (suc (suc zero))) ds h = refl
input_free (suc (suc (suc (suc zero)))) ds h = refl
input_free (suc (suc (suc (suc (suc zero))))) ds h = refl
input_free (suc (suc (suc (suc (suc (suc zero)))))) ds h = refl
input_free (suc (suc (suc (suc (suc (suc (suc zero))))))) ds h = refl
input_free (suc (suc (suc (suc (suc (suc (suc (suc zero)))))))) ds h = refl
input_free (suc (suc (suc (suc (suc (suc (suc (suc (suc zero))))))))) ds h = refl
input_free (suc (suc (suc (suc (suc (suc (suc (suc (suc (suc d)))))))))) ds h = absurd (omega arith)

derived_free : (d : ℕ) (ds : List ℕ) → d < 10 → keyword_of (100 ∷ (48 + d) ∷ ds) ≡ None
unfolding keyword_of
derived_free zero ds h = refl
derived_free (suc zero) ds h = refl
derived_free (suc (suc zero)) ds h = refl
derived_free (suc (suc (suc zero))) ds h = refl
derived_free (suc (suc (suc (suc zero)))) ds h = refl
derived_free (suc (suc (suc (suc (suc zero))))) ds h = refl
derived_free (suc (suc (suc (suc (suc (suc zero)))))) ds h = refl
derived_free (suc (suc (suc (suc (suc (suc (suc zero))))))) ds h = refl
derived_free (suc (suc (suc (suc (suc (suc (suc (suc zero)))))))) ds h = refl
derived_free (suc (suc (suc (suc (suc (suc (suc (suc (suc zero))))))))) ds h = refl
derived_free (suc (suc (suc (suc (suc (suc (suc (suc (suc (suc d)))))))))) ds h = absurd (omega arith)

-- the names of inputs and of derived services are names
pub input_named : (k : ℕ) → k < 1000 → IsName (input_name k)
unfolding number_text
input_named k h =
    let d = decimal_is k (omega arith) in
    let len = length-decimal-le 3 k (omega arith) (omega arith) (omega arith) in
    record {
      is_word = digits_are_word (decimal k) d.digits;
      short = omega arith;
      free = ap (λ (ds : List ℕ). keyword_of (105 ∷ ds)) d.some.is ∙ input_free d.some.first d.some.others d.some.below;
    }

pub derived_named : (j : ℕ) → j < 1000 → IsName (derived_name j)
unfolding number_text
derived_named j h =
    let d = decimal_is j (omega arith) in
    let len = length-decimal-le 3 j (omega arith) (omega arith) (omega arith) in
    record {
      is_word = digits_are_word (decimal j) d.digits;
      short = omega arith;
      free = ap (λ (ds : List ℕ). keyword_of (100 ∷ ds)) d.some.is ∙ derived_free d.some.first d.some.others d.some.below;
    }

pub service_named : (inputs n : ℕ) → n < 999 → IsName (service_name inputs n)
service_named inputs n h = either (nat_lt n inputs) (input_named (n + 1) (omega arith)) (derived_named (n + 1 - inputs) (omega arith))
  where
    either : (test : Bool) → IsName (input_name (n + 1)) → IsName (derived_name (n + 1 - inputs)) → IsName (cond test (input_name (n + 1)) (derived_name (n + 1 - inputs)))
    either true p q = p
    either false p q = q

word_name : (word : List ℕ) → IsName word → word_token word ≡ Name word
unfolding word_token
word_name word w = ap (λ (o : Option Keyword). word_or o word) w.free ∙ ap (λ (b : Bool). cond b (Name word) Long) (le-leb (length word) 32 w.short)

name_front : (word rest : List ℕ) → IsName word → begins is_word_byte rest ≡ false → front (word ++ rest) ≡ Some (Name word, length word)
unfolding front
name_front [] rest w g = let h = w.is_word in absurd (cc)
name_front (b ∷ bs) rest w g =
    let all = b ∷ (bs ++ rest) in
    let k = and_parts (is_ascii_alphabetic b) (list_all is_word_byte bs) w.is_word in
    let first : is_word_byte b ≡ true = ap (λ (q : Bool). q || is_ascii_digit b || b == 95) k.0 in
    let taken : take_while is_word_byte all ≡ b ∷ bs = while_on is_word_byte b (bs ++ rest) first ∙ ap (λ (l : List ℕ). b ∷ l) (take_all_of is_word_byte bs rest k.1 g) in
    ap (λ (q : Bool). cond q (word_front (take_while is_word_byte all)) (cond (is_ascii_digit b) (number_at (take_while is_ascii_digit all) all) (other_front b (bs ++ rest)))) k.0
    ∙ ap word_front taken
    ∙ ap (λ (t : Token). Some (t, length (b ∷ bs))) (word_name (b ∷ bs) w)

-- a name, and behind it what begins no word
pub name_cut : (word rest : List ℕ) (ts : List Token) → IsName word → begins is_word_byte rest ≡ false → Cuts rest ts → Cuts (word ++ rest) (Name word ∷ ts)
name_cut word rest ts w g s = fronted word rest (Name word) ts (name_front word rest w g) s

-- a name at the end of a line
pub last_name : (word : List ℕ) → IsName word → Cuts word (Name word ∷ [])
last_name word w = subst (λ (l : List ℕ). Cuts l (Name word ∷ [])) (append-nil word) (name_cut word [] [] w refl ends)
