-- The canonical text is cut into the canonical tokens.
use Rattle.std.proofs.Common.{◌≡◌, ℕ, suc, ◌+◌, ◌/◌, ◌%◌, ◌≤◌, ◌<◌, ◌^◌, min, Bool, true, false, cond, List, [], ◌∷◌, ◌++◌, length, take, drop, ◌*◌, ◌-◌, Option, Some, None, append_assoc, length-append, refl, sym, ap, subst, ◌∙◌, arith}
use Rattle.std.specs.Prelude.{pos, negsuc, ◌||◌, ◌&&◌, ◌==◌, codes, decimal}
use Rattle.std.specs.List.{take_while, list_all}
use Rattle.std.proofs.lemmas.Fmt.{decimal_by_steps}
use Rattle.std.proofs.lemmas.Bool.{le-leb, and_parts}
use Rattle.std.proofs.lemmas.Bool.Decides.{nat_tests}
use Rattle.std.proofs.lemmas.List.{append-nil}
use Rattle.std.proofs.lemmas.List.Sums.{take_while-cons}
use Rattle.std.specs.Char.{is_ascii_digit, is_ascii_alphabetic}
use Rattle.svc_token.specs.declared.keyword.Keyword.{Keyword}
use Rattle.svc_token.specs.declared.keyword.Keyword.TheVariants as keyword
use Rattle.svc_token.specs.declared.token.Token.{Token}
use Rattle.svc_token.specs.declared.token.Token.TheVariants.{Keyword as Word, Name, Long, Number, Quoted, Open, Close, Minus, Dash}
use Rattle.svc_token.specs.Word.{is_word_byte, IsName, number_from}
use Rattle.svc_token.specs.Keyword.{keyword_of}
use Rattle.svc_token.specs.Cutting.{begins, Front, word_or, word_token, number_at, quoted_at, mark_at, front, Cuts, ends, blank, token}
use Rattle.svc_value.specs.Printed.{between_quotes}
use Rattle.svc_expr.specs.declared.expr.Op.{Op}
use Rattle.svc_expr.specs.declared.expr.Op.TheVariants as op
use Rattle.svc_expr.specs.Tree.{Tree, number, words, given, negated, denied, pair, choice, len_of, number_of, text_of, sum_of_members, count_of_members, least_member, greatest_member}
use Rattle.svc_expr.specs.Canonical.{sign_text, has_bracket, bracketed, name_at, canonical_text, IsWritable}
use Rattle.svc_expr.proofs.NameLemmas.{Names}
use Rattle.svc_expr.proofs.Spelled.{sign_of, in_brackets_if, canon}
use Rattle.svc_expr.proofs.QuotedCut.{quoted_front}

-- a text and behind it the rest
abbrev pub brackets_if : Bool → (List ℕ → List ℕ) → List ℕ → List ℕ
brackets_if true f rest = f rest
brackets_if false f rest = 40 ∷ f (41 ∷ rest)

-- the canonical text, and behind it the rest
unfoldable pub onto : Names → Tree → List ℕ → List ℕ
onto names (number (pos n)) rest = decimal n ++ rest
onto names (number (negsuc n)) rest = 45 ∷ (decimal (suc n) ++ rest)
onto names (words text) rest = between_quotes text ++ rest
onto names (given k) rest = name_at names k ++ rest
onto names (negated a) rest = 45 ∷ brackets_if (has_bracket a) (onto names a) rest
onto names (denied a) rest = codes "(not " ++ brackets_if (has_bracket a) (onto names a) (41 ∷ rest)
onto names (pair o a b) rest = 40 ∷ onto names a (sign_text o ++ onto names b (41 ∷ rest))
onto names (choice c a b) rest = codes "(if " ++ onto names c (codes " then " ++ onto names a (codes " else " ++ onto names b (41 ∷ rest)))
onto names (len_of a) rest = codes "len(" ++ onto names a (41 ∷ rest)
onto names (number_of a) rest = codes "number(" ++ onto names a (41 ∷ rest)
onto names (text_of a) rest = codes "text(" ++ onto names a (41 ∷ rest)
onto names sum_of_members rest = codes "sum()" ++ rest
onto names count_of_members rest = codes "count()" ++ rest
onto names least_member rest = codes "min()" ++ rest
onto names greatest_member rest = codes "max()" ++ rest

opened : (rest : List ℕ) (ts : List Token) → Cuts rest ts → Cuts (40 ∷ rest) (Open ∷ ts)
unfolding front mark_at
opened rest ts s = token {n = 1} refl s

closed : (rest : List ℕ) (ts : List Token) → Cuts rest ts → Cuts (41 ∷ rest) (Close ∷ ts)
unfolding front mark_at
closed rest ts s = token {n = 1} refl s

signed : (o : Op) (rest : List ℕ) (ts : List Token) → Cuts rest ts → Cuts (sign_text o ++ rest) (sign_of o ∷ ts)
unfolding front mark_at word_token keyword_of
signed op.Add rest ts s = blank refl (token {n = 1} refl (blank refl s))
signed op.Sub rest ts s = blank refl (token {n = 1} refl (blank refl s))
signed op.Mul rest ts s = blank refl (token {n = 1} refl (blank refl s))
signed op.Div rest ts s = blank refl (token {n = 1} refl (blank refl s))
signed op.Rem rest ts s = blank refl (token {n = 1} refl (blank refl s))
signed op.Join rest ts s = blank refl (token {n = 2} refl (blank refl s))
signed op.Eq rest ts s = blank refl (token {n = 1} refl (blank refl s))
signed op.Ne rest ts s = blank refl (token {n = 2} refl (blank refl s))
signed op.Lt rest ts s = blank refl (token {n = 1} refl (blank refl s))
signed op.Le rest ts s = blank refl (token {n = 2} refl (blank refl s))
signed op.Gt rest ts s = blank refl (token {n = 1} refl (blank refl s))
signed op.Ge rest ts s = blank refl (token {n = 2} refl (blank refl s))
signed op.And rest ts s = blank refl (token {n = 3} refl (blank refl s))
signed op.Or rest ts s = blank refl (token {n = 2} refl (blank refl s))

if_word : (rest : List ℕ) (ts : List Token) → Cuts rest ts → Cuts (codes "(if " ++ rest) (Open ∷ Word keyword.If ∷ ts)
unfolding front mark_at word_token keyword_of
if_word rest ts s = token {n = 1} refl (token {n = 2} refl (blank refl s))

not_word : (rest : List ℕ) (ts : List Token) → Cuts rest ts → Cuts (codes "(not " ++ rest) (Open ∷ Word keyword.Not ∷ ts)
unfolding front mark_at word_token keyword_of
not_word rest ts s = token {n = 1} refl (token {n = 3} refl (blank refl s))

then_word : (rest : List ℕ) (ts : List Token) → Cuts rest ts → Cuts (codes " then " ++ rest) (Word keyword.Then ∷ ts)
unfolding front mark_at word_token keyword_of
then_word rest ts s = blank refl (token {n = 4} refl (blank refl s))

else_word : (rest : List ℕ) (ts : List Token) → Cuts rest ts → Cuts (codes " else " ++ rest) (Word keyword.Else ∷ ts)
unfolding front mark_at word_token keyword_of
else_word rest ts s = blank refl (token {n = 4} refl (blank refl s))

len_word : (rest : List ℕ) (ts : List Token) → Cuts rest ts → Cuts (codes "len(" ++ rest) (Word keyword.Len ∷ Open ∷ ts)
unfolding front mark_at word_token keyword_of
len_word rest ts s = token {n = 3} refl (token {n = 1} refl s)

number_word : (rest : List ℕ) (ts : List Token) → Cuts rest ts → Cuts (codes "number(" ++ rest) (Word keyword.Number ∷ Open ∷ ts)
unfolding front mark_at word_token keyword_of
number_word rest ts s = token {n = 6} refl (token {n = 1} refl s)

text_word : (rest : List ℕ) (ts : List Token) → Cuts rest ts → Cuts (codes "text(" ++ rest) (Word keyword.Text ∷ Open ∷ ts)
unfolding front mark_at word_token keyword_of
text_word rest ts s = token {n = 4} refl (token {n = 1} refl s)

sum_word : (rest : List ℕ) (ts : List Token) → Cuts rest ts → Cuts (codes "sum()" ++ rest) (Word keyword.Sum ∷ Open ∷ Close ∷ ts)
unfolding front mark_at word_token keyword_of
sum_word rest ts s = token {n = 3} refl (token {n = 1} refl (token {n = 1} refl s))

count_word : (rest : List ℕ) (ts : List Token) → Cuts rest ts → Cuts (codes "count()" ++ rest) (Word keyword.Count ∷ Open ∷ Close ∷ ts)
unfolding front mark_at word_token keyword_of
count_word rest ts s = token {n = 5} refl (token {n = 1} refl (token {n = 1} refl s))

min_word : (rest : List ℕ) (ts : List Token) → Cuts rest ts → Cuts (codes "min()" ++ rest) (Word keyword.Min ∷ Open ∷ Close ∷ ts)
unfolding front mark_at word_token keyword_of
min_word rest ts s = token {n = 3} refl (token {n = 1} refl (token {n = 1} refl s))

max_word : (rest : List ℕ) (ts : List Token) → Cuts rest ts → Cuts (codes "max()" ++ rest) (Word keyword.Max ∷ Open ∷ Close ∷ ts)
unfolding front mark_at word_token keyword_of
max_word rest ts s = token {n = 3} refl (token {n = 1} refl (token {n = 1} refl s))

-- no digit stands behind the `-` of a negation
no_digit : (names : Names) (a : Tree) (rest : List ℕ) → begins is_ascii_digit (brackets_if (has_bracket a) (onto names a) rest) ≡ false
unfolding onto
no_digit names (number z) rest = refl
no_digit names (words text) rest = refl
no_digit names (given k) rest = refl
no_digit names (negated a) rest = refl
no_digit names (denied a) rest = refl
no_digit names (pair o a b) rest = refl
no_digit names (choice c a b) rest = refl
no_digit names (len_of a) rest = refl
no_digit names (number_of a) rest = refl
no_digit names (text_of a) rest = refl
no_digit names sum_of_members rest = refl
no_digit names count_of_members rest = refl
no_digit names least_member rest = refl
no_digit names greatest_member rest = refl

minus_sign : (rest : List ℕ) (ts : List Token) → begins is_ascii_digit rest ≡ false → Cuts rest ts → Cuts (45 ∷ rest) (Minus ∷ ts)
unfolding front mark_at
minus_sign rest ts h s = token {n = 1} (ap (λ (q : Bool). Some (cond q Dash Minus, 1)) h) s

dash_sign : (rest : List ℕ) (ts : List Token) → begins is_ascii_digit rest ≡ true → Cuts rest ts → Cuts (45 ∷ rest) (Dash ∷ ts)
unfolding front mark_at
dash_sign rest ts h s = token {n = 1} (ap (λ (q : Bool). Some (cond q Dash Minus, 1)) h) s

while_on : (p : ℕ → Bool) (b : ℕ) (bs : List ℕ) → p b ≡ true → take_while p (b ∷ bs) ≡ b ∷ take_while p bs
while_on p b bs h = take_while-cons p b bs ∙ ap (λ (q : Bool). cond q (b ∷ take_while p bs) []) h

while_off : (p : ℕ → Bool) (bs : List ℕ) → begins p bs ≡ false → take_while p bs ≡ []
while_off p [] h = refl
while_off p (b ∷ bs) h = take_while-cons p b bs ∙ ap (λ (q : Bool). cond q (b ∷ take_while p bs) []) h

take_all_of : (p : ℕ → Bool) (xs rest : List ℕ) → list_all p xs ≡ true → begins p rest ≡ false → take_while p (xs ++ rest) ≡ xs
take_all_of p [] rest h g = while_off p rest g
take_all_of p (x ∷ xs) rest h g =
    let k = and_parts (p x) (list_all p xs) h in
    while_on p x (xs ++ rest) k.0 ∙ ap (λ (l : List ℕ). x ∷ l) (take_all_of p xs rest k.1 g)

drop_front : (xs ys : List ℕ) → drop (length xs) (xs ++ ys) ≡ ys
drop_front [] ys = refl
drop_front (x ∷ xs) ys = drop_front xs ys

take_front : (xs ys : List ℕ) → take (length xs) (xs ++ ys) ≡ xs
take_front [] ys = refl
take_front (x ∷ xs) ys = ap (λ (l : List ℕ). x ∷ l) (take_front xs ys)

-- a token whose bytes stand in front
fronted : (bytes rest : List ℕ) (t : Token) (ts : List Token) → front (bytes ++ rest) ≡ Some (t, length bytes) → Cuts rest ts → Cuts (bytes ++ rest) (t ∷ ts)
fronted bytes rest t ts h s = token h (subst (λ (l : List ℕ). Cuts l ts) (sym (drop_front bytes rest)) s)

list_all-push : (p : ℕ → Bool) (xs : List ℕ) (x : ℕ) → list_all p xs ≡ true → p x ≡ true → list_all p (xs ++ x ∷ []) ≡ true
list_all-push p [] x h g = ap (λ (b : Bool). b && true) g
list_all-push p (y ∷ xs) x h g = let k = and_parts (p y) (list_all p xs) h in ap (λ (b : Bool). b && list_all p (xs ++ x ∷ [])) k.0 ∙ list_all-push p xs x k.1 g

value_push : (v : ℕ) (ds : List ℕ) (d : ℕ) → number_from v (ds ++ d ∷ []) ≡ number_from v ds * 10 + (d - 48)
value_push v [] d = refl
value_push v (x ∷ ds) d = value_push (v * 10 + (x - 48)) ds d

-- the digits of a number, read again
record Decimal (n : ℕ) (ds : List ℕ) : Type 0 where
  value : number_from 0 ds ≡ n
  digits : list_all is_ascii_digit ds ≡ true
  some : 0 < length ds

digit_is : (n : ℕ) → n < 10 → is_ascii_digit (48 + n) ≡ true
digit_is n h = grind (arith, nat_tests)

one_digit : (n : ℕ) → n < 10 → Decimal n ((48 + n) ∷ [])
one_digit n h = record { value = omega arith; digits = ap (λ (b : Bool). b && true) (digit_is n h); some = omega arith }

more_digits : (n : ℕ) (ds : List ℕ) → 10 ≤ n → Decimal (n / 10) ds → Decimal n (ds ++ ((48 + n % 10) ∷ []))
more_digits n ds h d = record {
  value = omega (arith, value_push 0 ds (48 + n % 10), d.value);
  digits = list_all-push is_ascii_digit ds (48 + n % 10) d.digits (digit_is (n % 10) (omega arith));
  some = simp length-append (omega (arith, d.some));
}

decimal_is : (n : ℕ) → n < 2 ^ 64 → Decimal n (decimal n)
decimal_is = decimal_by_steps Decimal one_digit more_digits

no_letter : (d : ℕ) → is_ascii_digit d ≡ true → is_ascii_alphabetic d ≡ false
no_letter d h = grind (arith, nat_tests)

middle : (p q r : Bool) → (p || q || r) ≡ false → q ≡ false
middle true q r h = absurd (cc)
middle false true r h = absurd (cc)
middle false false r h = refl

no_word : (rest : List ℕ) → begins is_word_byte rest ≡ false → begins is_ascii_digit rest ≡ false
no_word [] h = refl
no_word (b ∷ bs) h = middle (is_ascii_alphabetic b) (is_ascii_digit b) (b == 95) h

-- what the other bytes begin
abbrev other_front : ℕ → List ℕ → Front
other_front b rest = cond (b == 34) (quoted_at (b ∷ rest)) (mark_at b rest)

abbrev word_front : List ℕ → Front
word_front word = Some (word_token word, length word)

digits_front : (ds rest : List ℕ) → list_all is_ascii_digit ds ≡ true → 0 < length ds → number_from 0 ds ≤ 2 ^ 63 → begins is_word_byte rest ≡ false → front (ds ++ rest) ≡ Some (Number (number_from 0 ds), length ds)
unfolding front number_at
digits_front [] rest h s m g = absurd (omega arith)
digits_front (d ∷ ds) rest h s m g =
    let all = d ∷ (ds ++ rest) in
    let k = and_parts (is_ascii_digit d) (list_all is_ascii_digit ds) h in
    let small : min (number_from 0 (d ∷ ds)) 18446744073709551615 ≡ number_from 0 (d ∷ ds) = omega arith in
    ap (λ (q : Bool). cond q (word_front (take_while is_word_byte all)) (cond (is_ascii_digit d) (number_at (take_while is_ascii_digit all) all) (other_front d (ds ++ rest)))) (no_letter d k.0)
    ∙ ap (λ (q : Bool). cond q (number_at (take_while is_ascii_digit all) all) (other_front d (ds ++ rest))) k.0
    ∙ ap (λ (l : List ℕ). number_at l all) (take_all_of is_ascii_digit (d ∷ ds) rest h (no_word rest g))
    ∙ ap (λ (l : List ℕ). cond (begins is_word_byte l) None (Some (Number (min (number_from 0 (d ∷ ds)) 18446744073709551615), length (d ∷ ds)))) (drop_front (d ∷ ds) rest)
    ∙ ap (λ (q : Bool). cond q None (Some (Number (min (number_from 0 (d ∷ ds)) 18446744073709551615), length (d ∷ ds)))) g
    ∙ ap (λ (n : ℕ). Some (Number n, length (d ∷ ds))) small

number_front : (n : ℕ) (rest : List ℕ) → n ≤ 2 ^ 63 → begins is_word_byte rest ≡ false → front (decimal n ++ rest) ≡ Some (Number n, length (decimal n))
number_front n rest h g =
    let d = decimal_is n (omega arith) in
    let v = d.value in
    digits_front (decimal n) rest d.digits d.some (omega arith) g ∙ ap (λ (v : ℕ). Some (Number v, length (decimal n))) d.value

begins_digits : (ds rest : List ℕ) → list_all is_ascii_digit ds ≡ true → 0 < length ds → begins is_ascii_digit (ds ++ rest) ≡ true
begins_digits [] rest h s = absurd (omega arith)
begins_digits (d ∷ ds) rest h s = (and_parts (is_ascii_digit d) (list_all is_ascii_digit ds) h).0

first_digit : (n : ℕ) (rest : List ℕ) → n ≤ 2 ^ 63 → begins is_ascii_digit (decimal n ++ rest) ≡ true
first_digit n rest h = let d = decimal_is n (omega arith) in begins_digits (decimal n) rest d.digits d.some

number_text : (n : ℕ) (rest : List ℕ) (ts : List Token) → n ≤ 2 ^ 63 → begins is_word_byte rest ≡ false → Cuts rest ts → Cuts (decimal n ++ rest) (Number n ∷ ts)
number_text n rest ts h g s = fronted (decimal n) rest (Number n) ts (number_front n rest h g) s

-- a name is a token of its own
word_name : (word : List ℕ) → IsName word → word_token word ≡ Name word
unfolding word_token
word_name word w = ap (λ (o : Option Keyword). word_or o word) w.free ∙ ap (λ (b : Bool). cond b (Name word) Long) (le-leb (length word) 32 w.short)

name_front : (word rest : List ℕ) → IsName word → begins is_word_byte rest ≡ false → front (word ++ rest) ≡ Some (Name word, length word)
unfolding front
name_front [] rest w g = let h = w.is_word in absurd (cc)
name_front (b ∷ bs) rest w g =
    let all = b ∷ (bs ++ rest) in
    let k = and_parts (is_ascii_alphabetic b) (list_all is_word_byte bs) w.is_word in
    let first : is_word_byte b ≡ true = ap (λ (q : Bool). q || is_ascii_digit b || b == 95) k.0 in
    let taken : take_while is_word_byte all ≡ b ∷ bs = while_on is_word_byte b (bs ++ rest) first ∙ ap (λ (l : List ℕ). b ∷ l) (take_all_of is_word_byte bs rest k.1 g) in
    ap (λ (q : Bool). cond q (word_front (take_while is_word_byte all)) (cond (is_ascii_digit b) (number_at (take_while is_ascii_digit all) all) (other_front b (bs ++ rest)))) k.0
    ∙ ap word_front taken
    ∙ ap (λ (t : Token). Some (t, length (b ∷ bs))) (word_name (b ∷ bs) w)

bracketed_cut : (b : Bool) (f : List ℕ → List ℕ) (h : List Token → List Token) (rest : List ℕ) (ts : List Token) → begins is_word_byte rest ≡ false → Cuts rest ts
    → ((us : List ℕ) (vs : List Token) → begins is_word_byte us ≡ false → Cuts us vs → Cuts (f us) (h vs)) → Cuts (brackets_if b f rest) (in_brackets_if b h ts)
bracketed_cut true f h rest ts g s k = k rest ts g s
bracketed_cut false f h rest ts g s k = opened (f (41 ∷ rest)) (h (Close ∷ ts)) (k (41 ∷ rest) (Close ∷ ts) refl (closed rest ts s))

-- an operator with blanks begins no word
sign_begins : (o : Op) (rest : List ℕ) → begins is_word_byte (sign_text o ++ rest) ≡ false
sign_begins op.Add rest = refl
sign_begins op.Sub rest = refl
sign_begins op.Mul rest = refl
sign_begins op.Div rest = refl
sign_begins op.Rem rest = refl
sign_begins op.Join rest = refl
sign_begins op.Eq rest = refl
sign_begins op.Ne rest = refl
sign_begins op.Lt rest = refl
sign_begins op.Le rest = refl
sign_begins op.Gt rest = refl
sign_begins op.Ge rest = refl
sign_begins op.And rest = refl
sign_begins op.Or rest = refl

module _ (names : Names) (are_names : (k : ℕ) → k < length names → IsName (name_at names k)) where
  pub cuts : (e : Tree) → IsWritable names e → (rest : List ℕ) (ts : List Token) → begins is_word_byte rest ≡ false → Cuts rest ts → Cuts (onto names e rest) (canon names e ts)
  unfolding onto canon
  cuts (number (pos n)) w rest ts g s = number_text n rest ts (omega arith) g s
  cuts (number (negsuc n)) w rest ts g s = dash_sign (decimal (suc n) ++ rest) (Number (suc n) ∷ ts) (first_digit (suc n) rest (omega arith)) (number_text (suc n) rest ts (omega arith) g s)
  cuts (words text) w rest ts g s = fronted (between_quotes text) rest (Quoted (between_quotes text)) ts (quoted_front text rest) s
  cuts (given k) w rest ts g s = fronted (name_at names k) rest (Name (name_at names k)) ts (name_front (name_at names k) rest (are_names k w) g) s
  cuts (negated a) w rest ts g s = minus_sign (brackets_if (has_bracket a) (onto names a) rest) (in_brackets_if (has_bracket a) (canon names a) ts) (no_digit names a rest) (bracketed_cut (has_bracket a) (onto names a) (canon names a) rest ts g s (cuts a w))
  cuts (denied a) w rest ts g s = not_word _ _ (bracketed_cut (has_bracket a) (onto names a) (canon names a) (41 ∷ rest) (Close ∷ ts) refl (closed rest ts s) (cuts a w))
  cuts (pair o a b) w rest ts g s = opened _ _ (cuts a w.0 _ _ (sign_begins o (onto names b (41 ∷ rest))) (signed o _ _ (cuts b w.1 (41 ∷ rest) (Close ∷ ts) refl (closed rest ts s))))
  cuts (choice c a b) w rest ts g s = if_word _ _ (cuts c w.0 _ _ refl (then_word _ _ (cuts a w.1 _ _ refl (else_word _ _ (cuts b w.2 (41 ∷ rest) (Close ∷ ts) refl (closed rest ts s))))))
  cuts (len_of a) w rest ts g s = len_word _ _ (cuts a w (41 ∷ rest) (Close ∷ ts) refl (closed rest ts s))
  cuts (number_of a) w rest ts g s = number_word _ _ (cuts a w (41 ∷ rest) (Close ∷ ts) refl (closed rest ts s))
  cuts (text_of a) w rest ts g s = text_word _ _ (cuts a w (41 ∷ rest) (Close ∷ ts) refl (closed rest ts s))
  cuts sum_of_members w rest ts g s = sum_word rest ts s
  cuts count_of_members w rest ts g s = count_word rest ts s
  cuts least_member w rest ts g s = min_word rest ts s
  cuts greatest_member w rest ts g s = max_word rest ts s

wrapped_is : (b : Bool) (f : List ℕ → List ℕ) (bs rest : List ℕ) → ((us : List ℕ) → f us ≡ bs ++ us) → brackets_if b f rest ≡ bracketed b bs ++ rest
wrapped_is true f bs rest h = h rest
wrapped_is false f bs rest h = ap (λ (us : List ℕ). 40 ∷ us) (h (41 ∷ rest)) ∙ simp append_assoc

call_is : (word bs rest : List ℕ) (f : List ℕ → List ℕ) → f (41 ∷ rest) ≡ bs ++ 41 ∷ rest → word ++ f (41 ∷ rest) ≡ (word ++ bs ++ codes ")") ++ rest
call_is word bs rest f h = ap (λ (us : List ℕ). word ++ us) h ∙ simp append_assoc

pub onto_is : (names : Names) (e : Tree) (rest : List ℕ) → onto names e rest ≡ canonical_text names e ++ rest
unfolding onto canonical_text
onto_is names (number (pos n)) rest = refl
onto_is names (number (negsuc n)) rest = refl
onto_is names (words text) rest = refl
onto_is names (given k) rest = refl
onto_is names (negated a) rest = ap (λ (us : List ℕ). 45 ∷ us) (wrapped_is (has_bracket a) (onto names a) (canonical_text names a) rest (onto_is names a))
onto_is names (denied a) rest = ap (λ (us : List ℕ). codes "(not " ++ us) (wrapped_is (has_bracket a) (onto names a) (canonical_text names a) (41 ∷ rest) (onto_is names a)) ∙ simp append_assoc
onto_is names (pair o a b) rest =
    ap (λ (us : List ℕ). 40 ∷ us) (onto_is names a (sign_text o ++ onto names b (41 ∷ rest)) ∙ ap (λ (us : List ℕ). canonical_text names a ++ (sign_text o ++ us)) (onto_is names b (41 ∷ rest))) ∙ simp append_assoc
onto_is names (choice c a b) rest =
    ap (λ (us : List ℕ). codes "(if " ++ us) (onto_is names c (codes " then " ++ onto names a (codes " else " ++ onto names b (41 ∷ rest))) ∙ ap (λ (us : List ℕ). canonical_text names c ++ (codes " then " ++ us)) (onto_is names a (codes " else " ++ onto names b (41 ∷ rest)) ∙ ap (λ (us : List ℕ). canonical_text names a ++ (codes " else " ++ us)) (onto_is names b (41 ∷ rest)))) ∙ simp append_assoc
onto_is names (len_of a) rest = call_is (codes "len(") (canonical_text names a) rest (onto names a) (onto_is names a (41 ∷ rest))
onto_is names (number_of a) rest = call_is (codes "number(") (canonical_text names a) rest (onto names a) (onto_is names a (41 ∷ rest))
onto_is names (text_of a) rest = call_is (codes "text(") (canonical_text names a) rest (onto names a) (onto_is names a (41 ∷ rest))
onto_is names sum_of_members rest = refl
onto_is names count_of_members rest = refl
onto_is names least_member rest = refl
onto_is names greatest_member rest = refl

-- the canonical text, cut
pub written : (names : Names) (e : Tree) → ((k : ℕ) → k < length names → IsName (name_at names k)) → IsWritable names e → Cuts (canonical_text names e) (canon names e [])
written names e n w = subst (λ (bs : List ℕ). Cuts bs (canon names e [])) (onto_is names e [] ∙ append-nil (canonical_text names e)) (cuts names n e w [] [] refl ends)
